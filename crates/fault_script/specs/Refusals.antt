-- What a fault of a script says of its text.
use Rattle.std.specs.Prelude.{◌≡◌, Err, IfSome, Option, Some, None}
use Rattle.script_model.specs.declared.refusals.LineRefusal.TheVariants as line
use Rattle.script_model.specs.Meaning.{Reading, stopped_by, Meaning, outcome}
use Rattle.script_model.specs.declared.refusals.Refusal.{Refusal}
use Rattle.script_model.specs.declared.refusals.Refusal.TheVariants.{BadHead, HeadSize, Line, NoEnd}
use Rattle.fault_script.specs.declared.script_fault.ScriptFault.{ScriptFault}
use Rattle.fault_script.specs.declared.script_fault.ScriptFault.TheVariants as fault

-- the refusal that it names; want of memory names none
abbrev pub refusal_of : ScriptFault → Option Refusal
refusal_of (fault.BadHead e) = Some (BadHead e)
refusal_of fault.HeadSize = Some HeadSize
refusal_of (fault.BadLine n) = Some (Line n line.BadLine)
refusal_of (fault.TooManyTicks n) = Some (Line n line.TooManyTicks)
refusal_of (fault.TooManyFrames n) = Some (Line n line.TooManyFrames)
refusal_of (fault.TooManyLines n) = Some (Line n line.TooManyLines)
refusal_of (fault.LineTooLong n) = Some (Line n line.LineTooLong)
refusal_of fault.NoEnd = Some NoEnd
refusal_of fault.NoMemory = None

-- the reading has stopped for it, or there was no memory
abbrev pub Stops : ScriptFault → Reading → Type 0
Stops f r = IfSome (refusal_of f) (λ refusal. stopped_by r ≡ Some refusal)

-- the text comes to it, or there was no memory
abbrev pub Misses : ScriptFault → Meaning → Type 0
Misses f m = IfSome (refusal_of f) (λ refusal. outcome m ≡ Err refusal)
