-- What one line says: a row for each form of line.
use Rattle.std.specs.Prelude.{ℕ, ◌-◌, ◌==◌, ◌&&◌, nat_le, List, [], ◌∷◌, if◌then◌else◌, Option, Some, None, option_and_then}
use Rattle.can_frame.specs.Spelling.{word_of, frame_of}
use Rattle.script_model.specs.Numbers.{number_of}
use Rattle.script_model.specs.declared.Line.{Line}
use Rattle.script_model.specs.declared.Line.TheVariants.{Tick, End, Entry}
use Rattle.script_model.specs.declared.Entry.TheVariants.{Blank, Frame, Wires, Truth}
use Rattle.script_model.specs.SideLines.{side_line_of}

-- behind the `f`: a frame
abbrev pub frame_line : List ℕ → Option Line
frame_line [] = None
frame_line (s ∷ text) = if s == 32 then option_and_then (λ f. Some (Entry (Frame f))) (frame_of text) else None

-- behind the `w`: two words of four digits
abbrev pub wires_line : List ℕ → Option Line
wires_line (s ∷ a3 ∷ a2 ∷ a1 ∷ a0 ∷ p ∷ b3 ∷ b2 ∷ b1 ∷ b0 ∷ []) =
    if (s == 32) && (p == 32)
    then option_and_then (λ a. option_and_then (λ b. Some (Entry (Wires a b))) (word_of b3 b2 b1 b0)) (word_of a3 a2 a1 a0)
    else None
wires_line _ = None

-- behind the `u`: a source, 1 to 6, and a word
abbrev pub truth_line : List ℕ → Option Line
truth_line (s ∷ j ∷ p ∷ d3 ∷ d2 ∷ d1 ∷ d0 ∷ []) =
    if (s == 32) && ((p == 32) && (nat_le 49 j && nat_le j 54))
    then option_and_then (λ w. Some (Entry (Truth (j - 48) w))) (word_of d3 d2 d1 d0)
    else None
truth_line _ = None

-- behind the `t`: nothing, or a number from 2 on
abbrev pub tick_line : List ℕ → Option Line
tick_line [] = Some (Tick 1)
tick_line (s ∷ digits) =
    if s == 32 then option_and_then (λ n. if nat_le 2 n then Some (Tick n) else None) (number_of digits) else None

-- behind the `e`: nothing
abbrev pub end_line : List ℕ → Option Line
end_line [] = Some End
end_line _ = None

-- a line of one side, by the first byte and those behind it
abbrev pub side_line : ℕ → List ℕ → Option Line
side_line c rest = option_and_then (λ entry. Some (Entry entry)) (side_line_of c rest)

-- what a line says, by its first byte
abbrev pub line_of : List ℕ → Option Line
line_of [] = Some (Entry Blank)
line_of (c ∷ rest) =
    if c == 35 then Some (Entry Blank)
    else (if c == 102 then frame_line rest
    else (if c == 119 then wires_line rest
    else (if c == 117 then truth_line rest
    else (if c == 116 then tick_line rest
    else (if c == 101 then end_line rest
    else side_line c rest)))))
