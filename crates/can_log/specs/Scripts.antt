-- The script that a log stands for (own).
use Rattle.std.specs.Prelude.{ℕ, zero, suc, nat_le, List, [], ◌∷◌, ◌++◌, if◌then◌else◌, replicate}
use Rattle.lift_base.specs.declared.TheConstants.{SOURCES}
use Rattle.lift_model.specs.Records.{WireWords, Settings, InputData}
use Rattle.script_model.specs.Faults.{no_faults}
use Rattle.script_model.specs.Judging.{ScriptData}
use Rattle.can_log.specs.declared.wires.WireRow.{WireRow}
use Rattle.can_log.specs.Taken.{LogData, tick_at, first_or, frames_in}

abbrev pub all_zero : WireWords
all_zero = record { a = 0; b = 0 }

-- the words of a row
abbrev pub words_in : WireRow → WireWords
words_in r = record { a = r.a; b = r.b }

-- The words of the wires at a tick: those of the last row up to it. The rows are looked at in their order, until one is later.
abbrev pub words_at : ℕ → ℕ → ℕ → WireWords → List WireRow → WireWords
words_at first tick n before [] = before
words_at first tick n before (r ∷ rows) =
    if nat_le (tick_at first tick r.time) n then words_at first tick n (words_in r) rows else before

-- the input of a tick: the frames that were taken of it, in their order, and the words of the wires
abbrev pub input_at : LogData → List WireRow → ℕ → InputData
input_at log rows n = record {
  frames = frames_in n log.taken;
  words = words_at (first_or 0 log.first) log.taking.tick n all_zero rows;
  truth = replicate SOURCES 0;
  faults = no_faults;
}

-- those of the first ticks
unfoldable pub inputs_to : LogData → List WireRow → ℕ → List InputData
inputs_to log rows zero = []
inputs_to log rows (suc n) = inputs_to log rows n ++ input_at log rows (suc n) ∷ []

-- the ticks up to that of the last frame
abbrev pub script_of : Settings → LogData → List WireRow → ScriptData
script_of config log rows = record { config = config; inputs = inputs_to log rows log.ticks; steps = [] }
