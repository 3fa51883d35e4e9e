-- What reading a text answers.
use Rattle.std.specs.Prelude.{◌≡◌, Result, Ok, Err}
use Rattle.script_model.specs.Judging.{ScriptData}
use Rattle.script_model.specs.Meaning.{Meaning, outcome}
use Rattle.fault_script.specs.declared.script_fault.ScriptFault.{ScriptFault}
use Rattle.fault_script.specs.Refusals.{Misses}

-- the script that a text comes to, or its first refusal
abbrev pub Says : Result ScriptData ScriptFault → Meaning → Type 0
Says (Ok script) m = outcome m ≡ Ok script
Says (Err fault) m = Misses fault m
