-- What one line of a log says: a time, an interface and a frame, as `candump -l` writes them (own).
use Rattle.std.specs.Prelude.{ℕ, ◌+◌, ◌-◌, ◌*◌, ◌%◌, ◌==◌, ◌&&◌, ◌||◌, nat_le, Bool, false, List, [], ◌∷◌, length, take, drop, if◌then◌else◌, slice_index, Option, Some, None, is_some, option_map, option_and_then}
use Rattle.std.specs.List.{list_all, position}
use Rattle.std.specs.Char.{is_ascii_digit}
use Rattle.can_frame.specs.Frames.{id_at}
use Rattle.can_frame.specs.Spelling.{hex_digit, frame_of}
use Rattle.lift_model.specs.Records.{FrameData}
use Rattle.script_model.specs.Numbers.{value_from}
use Rattle.can_log.specs.declared.lines.Stamped.{Stamped}

-- the part before the first of these bytes, and the part behind it
abbrev pub cut : ℕ → List ℕ → Option (List ℕ × List ℕ)
cut byte text = option_map (λ i. (take i text, drop (i + 1) text)) (position (λ b. b == byte) text)

-- ---- the time

-- the number that digits write
abbrev pub number_in : List ℕ → Option ℕ
number_in digits = if list_all is_ascii_digit digits then Some (value_from 0 digits) else None

-- seconds and parts of them, in microseconds
abbrev pub microseconds : List ℕ → List ℕ → Option ℕ
microseconds seconds parts = option_and_then (λ s. option_and_then (λ p. Some (1000000 * s + p)) (number_in parts)) (number_in seconds)

-- 1 to 12 digits, a point, and six digits
abbrev pub clock_of : List ℕ → Option ℕ
clock_of text =
    let n = length text in
    if nat_le 8 n && (nat_le n 19 && (slice_index text (n - 7) == 46))
    then microseconds (take (n - 7) text) (drop (n - 6) text) else None

-- the same between brackets
abbrev pub stamp_of : List ℕ → Option ℕ
stamp_of text =
    let n = length text in
    if nat_le 2 n && ((slice_index text 0 == 40) && (slice_index text (n - 1) == 41)) then clock_of (take (n - 2) (drop 1 text)) else None

-- ---- the frame

abbrev pub is_hex : ℕ → Bool
is_hex b = is_some (hex_digit b)

-- up to so many pairs of digits
abbrev pub are_pairs : ℕ → List ℕ → Bool
are_pairs most text = list_all is_hex text && ((length text % 2 == 0) && nat_le (length text) (2 * most))

-- behind the `#` of a remote frame: `R`, and a digit where it asks for a length
abbrev pub is_remote : List ℕ → Bool
is_remote [] = false
is_remote (c ∷ rest) = (c == 82) && (nat_le (length rest) 1 && list_all is_hex rest)

-- behind that of an FD frame: `#`, the digit of its flags, and up to 64 bytes
abbrev pub is_fd : List ℕ → Bool
is_fd (c ∷ flags ∷ bytes) = (c == 35) && (is_hex flags && are_pairs 64 bytes)
is_fd _ = false

-- an identifier of three digits with a remote or an FD frame
abbrev pub is_foreign_here : List ℕ → Bool
is_foreign_here (a ∷ b ∷ c ∷ mark ∷ rest) = (mark == 35) && (is_remote rest || is_fd rest)
is_foreign_here _ = false

-- behind the `#` of an extended frame: bytes, or what a remote or an FD frame has
abbrev pub is_data : List ℕ → Bool
is_data text = are_pairs 8 text || (is_remote text || is_fd text)

-- eight digits with any frame: an extended frame, or one that tells of errors
abbrev pub is_extended : List ℕ → Bool
is_extended (a ∷ b ∷ c ∷ d ∷ e ∷ f ∷ g ∷ h ∷ mark ∷ rest) =
    (mark == 35) && (list_all is_hex (a ∷ b ∷ c ∷ d ∷ e ∷ f ∷ g ∷ h ∷ []) && is_data rest)
is_extended _ = false

-- a frame that is no data frame with an identifier of eleven bits; of each kind the first three digits are at most 7FF
abbrev pub is_foreign : List ℕ → Bool
is_foreign text = is_some (id_at text) && (is_foreign_here text || is_extended text)

-- a data frame with an identifier of eleven bits, or a foreign one; else it is no frame
abbrev pub frame_or : Option FrameData → Bool → Option (Option FrameData)
frame_or (Some f) foreign = Some (Some f)
frame_or None foreign = if foreign then Some None else None

abbrev pub kind_of : List ℕ → Option (Option FrameData)
kind_of text = frame_or (frame_of text) (is_foreign text)

-- without the ` R` or ` T` that tells the direction
abbrev pub bare : List ℕ → List ℕ
bare text =
    let n = length text in
    if nat_le 2 n && ((slice_index text (n - 2) == 32) && ((slice_index text (n - 1) == 82) || (slice_index text (n - 1) == 84)))
    then take (n - 2) text else text

-- ---- the line

-- without the blanks in front
abbrev pub skip_blanks : List ℕ → List ℕ
skip_blanks [] = []
skip_blanks (b ∷ rest) = if b == 32 then skip_blanks rest else b ∷ rest

-- a time, blanks, and two parts with a blank between them: the interface and the frame
abbrev pub parts_of : List ℕ → Option (ℕ × (List ℕ × List ℕ))
parts_of line = option_and_then (λ front. option_and_then (λ time. option_and_then (λ back. Some (time, back))
    (cut 32 (skip_blanks front.1))) (stamp_of front.0)) (cut 32 line)

-- what the line says: the time of a frame, and the frame where it is not a foreign one
abbrev pub stamped_of : List ℕ → Option Stamped
stamped_of line = option_and_then (λ parts. option_and_then (λ frame. Some (record { time = parts.0; frame = frame }))
    (kind_of (bare parts.1.1))) (parts_of line)

-- the interface that it names
abbrev pub interface_of : List ℕ → Option (List ℕ)
interface_of line = option_map (λ parts. parts.1.0) (parts_of line)
