-- What a reader tells of a piece of the text.
use Rattle.std.specs.Prelude.{ℕ, ◌≡◌, ◌≤◌, ◌+◌, Result, Ok, Err}
use Rattle.script_model.specs.Judging.{ScriptData}
use Rattle.script_model.specs.Meaning.{Reading, Ended, IsOpen, bytes_of}
use Rattle.fault_script.specs.declared.fed.Fed.{Fed}
use Rattle.fault_script.specs.declared.fed.Fed.TheVariants as fed
use Rattle.fault_script.specs.declared.script_fault.ScriptFault.{ScriptFault}
use Rattle.fault_script.specs.Refusals.{Stops}

-- by the piece a reading has become this one: it is still open, or the text has ended after so many bytes of the piece, or it is refused
abbrev pub Tells : Result Fed ScriptFault → Reading → Reading → Type 0
Tells (Ok fed.More) old new = IsOpen new
Tells (Ok (fed.Ended k)) old new = (script : ScriptData) × (new ≡ Ended script (bytes_of old + k))
Tells (Err fault) old new = Stops fault new

-- the text ends within so many bytes
abbrev pub EndsWithin : Fed → ℕ → Type 0
EndsWithin fed.More n = Unit {0}
EndsWithin (fed.Ended k) n = k ≤ n
