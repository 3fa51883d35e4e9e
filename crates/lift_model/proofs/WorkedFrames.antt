-- Live values over frame lists, computed by hand: the plain identifier is 101, sct is 25 and srvt is 10.
use Rattle.std.proofs.Common.{◌≡◌, ℕ, [], ◌∷◌, None, Some, refl}
use Rattle.lift_model.specs.Live.{Timed, Source, is_pair, live_value}

abbrev roof : Source
roof = record { plain = 0x101; sct = 25; srvt = 10 }

-- a plain and an inverted frame of two bytes, with their ticks
abbrev plain : ℕ → ℕ → ℕ → Timed
plain tick x y = record { frame = record { id = 0x101; bytes = x ∷ y ∷ [] }; tick = tick }

abbrev inverted : ℕ → ℕ → ℕ → Timed
inverted tick x y = record { frame = record { id = 0x102; bytes = x ∷ y ∷ [] }; tick = tick }

-- no frame, no value
no_frames : live_value roof [] 1 ≡ None
no_frames = refl

-- 30 and CF are inverse, and so are 02 and FD; 48 + 256 * 2 = 560
a_pair : live_value roof (plain 1 0x30 0x02 ∷ inverted 1 0xCF 0xFD ∷ []) 1 ≡ Some 560
unfolding is_pair
a_pair = refl

-- the inverted frame of tick 1 counts up to tick 1 + 25
in_time : live_value roof (plain 1 0x30 0x00 ∷ inverted 1 0xCF 0xFF ∷ []) 26 ≡ Some 0x30
unfolding is_pair
in_time = refl

one_tick_late : live_value roof (plain 1 0x30 0x00 ∷ inverted 1 0xCF 0xFF ∷ []) 27 ≡ None
unfolding is_pair
one_tick_late = refl

-- 10 ticks lie between the frames; then 11
slow_pair : live_value roof (plain 1 0x30 0x00 ∷ inverted 11 0xCF 0xFF ∷ []) 36 ≡ Some 0x30
unfolding is_pair
slow_pair = refl

late_pair : live_value roof (plain 1 0x30 0x00 ∷ inverted 12 0xCF 0xFF ∷ []) 12 ≡ None
unfolding is_pair
late_pair = refl

-- CE is not the inverse of 30
one_wrong_bit : live_value roof (plain 1 0x30 0x00 ∷ inverted 1 0xCE 0xFF ∷ []) 1 ≡ None
unfolding is_pair
one_wrong_bit = refl

-- a wrong pair ends the value of the good one before it
bad_pair_ends_the_value : live_value roof (plain 1 0x30 0x00 ∷ inverted 1 0xCF 0xFF ∷ plain 2 0x30 0x00 ∷ inverted 2 0xCF 0xFE ∷ []) 2
    ≡ None
unfolding is_pair
bad_pair_ends_the_value = refl

-- behind one plain frame more, whatever its bytes, the pair still counts
one_plain_more : live_value roof (plain 1 0x30 0x00 ∷ inverted 1 0xCF 0xFF ∷ plain 3 0x31 0x00 ∷ []) 26 ≡ Some 0x30
unfolding is_pair
one_plain_more = refl

two_plain_more : live_value roof (plain 1 0x30 0x00 ∷ inverted 1 0xCF 0xFF ∷ plain 3 0x31 0x00 ∷ plain 4 0x31 0x00 ∷ []) 4 ≡ None
unfolding is_pair
two_plain_more = refl

-- a repeated inverted frame makes no pair, and ends the one before it
repeated_inverted_frame : live_value roof (plain 1 0x30 0x00 ∷ inverted 1 0xCF 0xFF ∷ inverted 3 0xCF 0xFF ∷ []) 3 ≡ None
unfolding is_pair
repeated_inverted_frame = refl

-- the plain frame that stood behind the first pair makes the second
next_pair : live_value roof (plain 1 0x30 0x00 ∷ inverted 1 0xCF 0xFF ∷ plain 20 0x31 0x00 ∷ inverted 22 0xCE 0xFF ∷ []) 47 ≡ Some 0x31
unfolding is_pair
next_pair = refl

-- the inverted frame comes first
wrong_order : live_value roof (inverted 1 0xCF 0xFF ∷ plain 1 0x30 0x00 ∷ []) 1 ≡ None
unfolding is_pair
wrong_order = refl

abbrev x : Timed
x = record { frame = record { id = 0x101; bytes = 0x30 ∷ 0x00 ∷ 0x00 ∷ [] }; tick = 1 }

abbrev y : Timed
y = record { frame = record { id = 0x102; bytes = 0xCF ∷ 0xFF ∷ 0xFF ∷ [] }; tick = 1 }

-- three bytes make no pair
three_bytes : live_value roof (x ∷ y ∷ []) 1 ≡ None
unfolding is_pair
three_bytes = refl
