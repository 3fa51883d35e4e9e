-- How a call ends, and what it has written then.
use Rattle.std.specs.Prelude.{ℕ, ◌≡◌, List, [], ◌++◌, codes, decimal}
use Rattle.std.specs.declared.option.Option.{Option}
use Rattle.std.specs.declared.option.Option.TheVariants.{None, Some}
use Rattle.std.specs.Io.KnownBytes.{Appends}
use Rattle.lift_io.specs.Puts.{AppendsFront}
use Rattle.lift_run.specs.Records.{RunData}
use Rattle.script_model.specs.Judging.{ScriptData}
use Rattle.lift_front.specs.Calls.{Call, IsCalm, HasFailed}
use Rattle.lift_front.specs.Refusals.{WroteRefusal, notice}
use Rattle.lift_front.specs.declared.command.Command.{Command}
use Rattle.lift_front.specs.declared.command.Command.TheVariants.{Store}
use Rattle.lift_front.specs.declared.ending.Ending.{Ending}
use Rattle.lift_front.specs.declared.ending.Ending.TheVariants.{Done, CutShort, Refused, Stopped}
use Rattle.lift_front.specs.declared.fault.Fault.TheVariants as fault
use Rattle.lift_making.specs.Jobs.{Job}

-- a script was run: to its end, or to a step that was not possible; and then its changes were stored, or were not
abbrev pub HasRun : Ending → Type 0
HasRun Done = Unit {0}
HasRun CutShort = Unit {0}
HasRun (Stopped (fault.Step line)) = Unit {0}
HasRun (Stopped fault.Disk) = Unit {0}
HasRun (Stopped fault.Full) = Unit {0}
HasRun e = ⊥

-- all of it was run, and its text was written, or a front of it
abbrev pub IsWhole : Ending → Type 0
IsWhole Done = Unit {0}
IsWhole CutShort = Unit {0}
IsWhole e = ⊥

-- the line of the step that was not possible
abbrev pub stopped_at : Ending → Option ℕ
stopped_at (Stopped (fault.Step line)) = Some line
stopped_at e = None

-- nothing was run
abbrev pub IsBare : RunData → Type 0
IsBare run = (run.path.settled ≡ []) × (run.rounds ≡ [])

-- the text was written; or, only where the sink failed, a front of it; or a refusal in its place
abbrev pub Wrote : Ending → List ℕ → Call → Type 0
Wrote Done text sink = IsCalm sink × Appends sink.bytes_before sink.bytes_after text
Wrote CutShort text sink = HasFailed sink × AppendsFront sink.bytes_before sink.bytes_after text
Wrote (Refused f) text sink = WroteRefusal sink (notice f).text
Wrote (Stopped f) text sink = WroteRefusal sink (notice f).text

-- the line that counts the entries of a record
abbrev pub stored_text : ℕ → List ℕ
stored_text count = codes "stored " ++ decimal count ++ codes "\n"

-- what a command shows of a run; behind the report of `store` comes a count, which is that of the disk (Storing)
abbrev pub WroteRun : Command → Job → Ending → ScriptData → RunData → Call → Type 0
WroteRun Store job e script run sink = (count : ℕ) × Wrote e (job.text script run ++ stored_text count) sink
WroteRun command job e script run sink = Wrote e (job.text script run) sink
