-- The lines of one side: a letter, the side, and for some a word, an order or a place.
use Rattle.std.specs.Prelude.{ℕ, ◌+◌, ◌*◌, ◌==◌, List, [], ◌∷◌, length, if◌then◌else◌, codes, Option, Some, None, option_and_then}
use Rattle.std.specs.Str.{bytes_eq}
use Rattle.lift_model.specs.Enums.{Side, A, B, Override, Follow, Force, Off, Full, Up, Down}
use Rattle.can_frame.specs.Spelling.{hex_digit}
use Rattle.script_model.specs.Numbers.{place_of}
use Rattle.script_model.specs.declared.Entry.{Entry}
use Rattle.script_model.specs.declared.Entry.TheVariants.{OfSide}
use Rattle.script_model.specs.declared.sides.SideLine.{SideLine}
use Rattle.script_model.specs.declared.sides.SideLine.TheVariants.{Exchange, Fail, Hold, Word, Value, Contactor, Give, Dismiss, Sample, Publish, Look, Command}

-- a side, by its letter
abbrev pub side_of : ℕ → Option Side
side_of b = if b == 65 then Some A else if b == 66 then Some B else None

-- the number that hexadecimal digits write, behind a number
abbrev pub hex_from : ℕ → List ℕ → Option ℕ
hex_from n [] = Some n
hex_from n (d ∷ ds) = option_and_then (λ x. hex_from (16 * n + x) ds) (hex_digit d)

-- 16 digits
abbrev pub long_word_of : List ℕ → Option ℕ
long_word_of ds = if length ds == 16 then hex_from 0 ds else None

-- an order to a contactor, by its name
abbrev pub order_of : List ℕ → Option Override
order_of name =
    if bytes_eq name (codes "off") then Some (Force Off)
    else if bytes_eq name (codes "full") then Some (Force Full)
    else if bytes_eq name (codes "up") then Some (Force Up)
    else if bytes_eq name (codes "down") then Some (Force Down)
    else if bytes_eq name (codes "follow") then Some Follow
    else None

-- a line for which a letter and a side are enough
abbrev pub bare_line : ℕ → Option SideLine
bare_line c =
    if c == 114 then Some Exchange
    else if c == 120 then Some Fail
    else if c == 104 then Some Hold
    else if c == 100 then Some Dismiss
    else if c == 115 then Some Sample
    else if c == 113 then Some Publish
    else if c == 108 then Some Look
    else if c == 107 then Some Command
    else None

-- a line that also has a word, an order or a place
abbrev pub line_with : ℕ → List ℕ → Option SideLine
line_with c part =
    if c == 112 then option_and_then (λ w. Some (Word w)) (long_word_of part)
    else if c == 109 then option_and_then (λ w. Some (Value w)) (long_word_of part)
    else if c == 99 then option_and_then (λ order. Some (Contactor order)) (order_of part)
    else if c == 103 then option_and_then (λ i. Some (Give i)) (place_of part)
    else None

-- behind the side: nothing, or a space and that part
abbrev pub line_behind : ℕ → List ℕ → Option SideLine
line_behind c [] = bare_line c
line_behind c (s ∷ part) = if s == 32 then line_with c part else None

-- by the first byte and those behind it: a space, a side, and more
abbrev pub side_line_of : ℕ → List ℕ → Option Entry
side_line_of c (s ∷ b ∷ more) = if s == 32
    then option_and_then (λ side. option_and_then (λ l. Some (OfSide side l)) (line_behind c more)) (side_of b)
    else None
side_line_of c _ = None
