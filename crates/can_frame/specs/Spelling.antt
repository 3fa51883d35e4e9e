-- How hexadecimal words and frames are spelled.
use Rattle.std.specs.Prelude.{ℕ, ◌+◌, ◌-◌, ◌*◌, ◌/◌, ◌%◌, ◌==◌, ◌&&◌, nat_lt, nat_le, List, [], ◌∷◌, ◌++◌, length, if◌then◌else◌}
use Rattle.std.specs.List.{flat_map}
use Rattle.std.specs.Option.{option_and_then}
use Rattle.std.specs.declared.option.Option.{Option}
use Rattle.std.specs.declared.option.Option.TheVariants.{None, Some}
use Rattle.lift_model.specs.Records.{FrameData}

-- a hexadecimal digit in upper case
abbrev pub glyph : ℕ → ℕ
glyph d = if nat_lt d 10 then d + 48 else d + 55

abbrev pub hex_digit : ℕ → Option ℕ
hex_digit b = if nat_le 48 b && nat_le b 57 then Some (b - 48) else (if nat_le 65 b && nat_le b 70 then Some (b - 55) else None)

abbrev pub hex2 : ℕ → List ℕ
hex2 n = glyph (n / 16) ∷ glyph (n % 16) ∷ []

abbrev pub hex3 : ℕ → List ℕ
hex3 n = glyph (n / 16 / 16) ∷ glyph (n / 16 % 16) ∷ glyph (n % 16) ∷ []

abbrev pub hex4 : ℕ → List ℕ
hex4 n = glyph (n / 16 / 16 / 16) ∷ glyph (n / 16 / 16 % 16) ∷ glyph (n / 16 % 16) ∷ glyph (n % 16) ∷ []

-- sixteen digits, four at a time
unfoldable pub hex16 : ℕ → List ℕ
hex16 n = hex4 (n / 65536 / 65536 / 65536) ++ (hex4 (n / 65536 / 65536 % 65536) ++ (hex4 (n / 65536 % 65536) ++ hex4 (n % 65536)))

abbrev pub byte_of : ℕ → ℕ → Option ℕ
byte_of d1 d0 = option_and_then (λ x1. option_and_then (λ x0. Some (16 * x1 + x0)) (hex_digit d0)) (hex_digit d1)

-- three digits, not above 7FF
abbrev pub id_of : ℕ → ℕ → ℕ → Option ℕ
id_of d2 d1 d0 =
    option_and_then (λ x2. option_and_then (λ x1. option_and_then (λ x0.
    if nat_le x2 7 then Some (256 * x2 + 16 * x1 + x0) else None) (hex_digit d0)) (hex_digit d1)) (hex_digit d2)

-- four digits
abbrev pub word_of : ℕ → ℕ → ℕ → ℕ → Option ℕ
word_of d3 d2 d1 d0 =
    option_and_then (λ x3. option_and_then (λ x2. option_and_then (λ x1. option_and_then (λ x0.
    Some (4096 * x3 + 256 * x2 + 16 * x1 + x0)) (hex_digit d0)) (hex_digit d1)) (hex_digit d2)) (hex_digit d3)

-- pairs of digits, up to eight with those that came before
abbrev pub data_from : List ℕ → List ℕ → Option (List ℕ)
data_from done [] = Some done
data_from done (x ∷ []) = None
data_from done (x ∷ y ∷ more) = if nat_lt (length done) 8 then option_and_then (λ b. data_from (done ++ b ∷ []) more)
    (byte_of x y) else None

abbrev pub frame_text : FrameData → List ℕ
frame_text f = hex3 f.id ++ (35 ∷ flat_map hex2 f.bytes)

abbrev pub with_data : ℕ → List ℕ → Option FrameData
with_data id pairs = option_and_then (λ bytes. Some (record { id = id; bytes = bytes })) (data_from [] pairs)

-- the frame that a text spells
abbrev pub frame_of : List ℕ → Option FrameData
frame_of (a ∷ b ∷ c ∷ h ∷ pairs) = if h == 35 then option_and_then (λ id. with_data id pairs) (id_of a b c) else None
frame_of _ = None
