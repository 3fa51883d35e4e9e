-- A row of the wires' file, and the ranges in which a log's script is read back (own).
use Rattle.std.specs.Prelude.{ℕ, ◌<◌, ◌≤◌, ◌^◌, List, [], ◌∷◌, length, Option, Some, None, option_and_then}
use Rattle.std.specs.List.{AllByRecursion}
use Rattle.lift_base.specs.declared.limits.TheConstants.{MOST_FRAMES}
use Rattle.lift_config.specs.Ranges.{IsInRange}
use Rattle.lift_model.specs.Records.{Settings}
use Rattle.can_frame.specs.Frames.{IsFrameData}
use Rattle.can_frame.specs.Spelling.{word_of}
use Rattle.can_log.specs.declared.wires.WireRow.{WireRow}
use Rattle.can_log.specs.Lines.{clock_of}
use Rattle.can_log.specs.Taken.{LogData, frames_in}

-- four digits and nothing else
abbrev pub whole_word : List ℕ → Option ℕ
whole_word (d3 ∷ d2 ∷ d1 ∷ d0 ∷ []) = word_of d3 d2 d1 d0
whole_word _ = None

-- the row that a time and two words of four digits say
abbrev pub row_of : List ℕ → List ℕ → List ℕ → Option WireRow
row_of time a b = option_and_then (λ t. option_and_then (λ x. option_and_then (λ y. Some (record { time = t; a = x; b = y }))
    (whole_word b)) (whole_word a)) (clock_of time)

-- the words of a row are of sixteen bits
abbrev pub IsRow : WireRow → Type 0
IsRow r = (r.a < 2 ^ 16) × (r.b < 2 ^ 16)

-- what the types of a head, a log and its rows keep, and that the head has room for the ticks
pub record HasRanges (config : Settings) (log : LogData) (rows : List WireRow) : Type 0 where
  pub config_is : IsInRange config
  pub room : log.ticks ≤ config.ticks
  pub few : (n : ℕ) → length (frames_in n log.taken) ≤ MOST_FRAMES
  pub frames : AllByRecursion (λ t. IsFrameData t.frame) log.taken
  pub words : AllByRecursion IsRow rows
