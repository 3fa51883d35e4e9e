-- The promise of the top call.
use Rattle.std.specs.Prelude.{ℕ, ◌≡◌, ◌<◌, ◌+◌, ◌⊎◌, ◌↔◌, List, IsSomeAnd}
use Rattle.std.specs.declared.option.Option.{Option}
use Rattle.std.specs.declared.option.Option.TheVariants.{None}
use Rattle.lift_base.specs.declared.forms.Form.TheVariants as form
use Rattle.lift_model.specs.Plans.{Plan}
use Rattle.core_model.specs.Backed.{AllBacked, SeenIsOthers}
use Rattle.core_model.specs.History.{IsLockedOut, StartsAreOpen}
use Rattle.lift_run.specs.Records.{RunData}
use Rattle.saboteur.specs.Held.{places_in}
use Rattle.script_model.specs.Judging.{ScriptData}
use Rattle.script_model.specs.Meaning.{MeansScript}
use Rattle.lift_front.specs.Calls.{Call, IsCalm, HasFailed}
use Rattle.lift_front.specs.Refusals.{WroteRefusal, notice}
use Rattle.lift_front.specs.Scripts.{HasScript, TellsScript, NotRead}
use Rattle.lift_front.specs.declared.command.Command.{Command}
use Rattle.lift_front.specs.declared.command.Command.TheVariants.{Simulate, Store}
use Rattle.lift_front.specs.declared.ending.Ending.{Ending}
use Rattle.lift_front.specs.declared.ending.Ending.TheVariants.{Done, Refused}
use Rattle.lift_front.specs.declared.fault.Fault.{Fault}
use Rattle.lift_front.specs.declared.fault.Fault.TheVariants as fault
use Rattle.lift_making.specs.Jobs.{Job, job_of}
use Rattle.lift_making.specs.Ways.{RunOf, IsPossible}
use Rattle.lift_promise.specs.Running.{DueIsSettled, GrantedIsOn, IsTold, IsTrue}
use Rattle.lift_promise.specs.Storing.{DiskCall, IsReady, run_changes}
use Rattle.lift_promise.specs.Writing.{HasRun, IsBare, WroteRun, stopped_at}

-- what a call was given, and what its source and its sink tell of it; of the crew the plan of each place counts
pub record Given : Type 0 where
  pub command : Command
  pub crew : List (Option Plan)
  pub source : Call
  pub sink : Call

abbrev pub given : List (Option Plan) → Call → Call → Command → Given
given crew source sink command = record { command = command; crew = crew; source = source; sink = sink }

abbrev pub job : Given → Job
job g = job_of g.crew g.command

-- ---- the run

-- The script of the command was run, whatever the objects did and however the two threads were served.
pub record LawfulRun (g : Given) (e : Ending) (run : RunData) : Type 0 where
  -- the script is the one that the bytes of the source mean, in the command's form, or that the command tells
  pub calm : IsCalm g.source
  pub script : ScriptData
  pub has : HasScript (job g).origin g.source.bytes_before script
  -- the run is one of it: all of it, or the steps before the first that was not possible
  pub ran : RunOf (job g).way script (stopped_at e) run.rounds run.path.settled
  -- power of a kind is on at a tick only if the clauses granted that kind one or two ticks before, and each side that is healthy at it
  -- saw the other's word agree: the word that it saw is the other's
  pub backed : AllBacked script.config ran.events ran.state
  pub seen : SeenIsOthers script.config ran.events ran.state.path
  -- as long as no side has failed or was held, what is settled is what is due, and a kind that was granted at both ticks is on
  pub undisturbed : DueIsSettled script.config ran.events ran.state
  pub granted_is_on : GrantedIsOn script.config ran.events ran.state
  -- three mismatches of a healthy side in a row, and the exchange of a side, lock its power out until it is freed by a reset
  pub locks_out : IsLockedOut script.config ran.events ran.state.path
  -- a healthy side's command goes from off to a kind only with both contactors open
  pub starts_open : StartsAreOpen script.config ran.events
  -- what the script tells of the run, what the command says of it, and what was written
  pub told : IsTold (job g).way script run.rounds ran.events ran.state
  pub shown : IsTrue g.command script run
  pub wrote : WroteRun g.command (job g) e script run g.sink

-- ---- the refusals

-- there is a script of the command
abbrev pub WasRead : Given → Type 0
WasRead g = IsCalm g.source × ((script : ScriptData) × HasScript (job g).origin g.source.bytes_before script)

-- why nothing was run: for the sake of the record in which its changes were to be stored, or there is no script to run
abbrev pub Why : Given → Fault → Type 0
Why g fault.Disk = (g.command ≡ Store) × WasRead g
Why g (fault.Record i) = (g.command ≡ Store) × WasRead g
Why g f = NotRead (job g).origin f g.source

-- nothing was run, for a cause, and its text was written as far as the sink took it
pub record IsRefused (g : Given) (f : Fault) (run : RunData) : Type 0 where
  pub bare : IsBare run
  pub why : Why g f
  pub wrote : WroteRefusal g.sink (notice f).text

-- ---- the clauses

-- what a call comes to that asks for a command
abbrev pub ComesTo : Given → Ending → RunData → Type 0
ComesTo g (Refused f) run = IsRefused g f run
ComesTo g e run = HasRun e × LawfulRun g e run

-- words that ask for no command are refused, and nothing else is: nothing is run, read or called then
pub record AreWrong (asked : Option Command) (e : Ending) (run : RunData) (unread untouched : Type 0) (sink : Call) : Type 0 where
  pub exactly : (e ≡ Refused fault.Words) ↔ (asked ≡ None)
  pub nothing : asked ≡ None → IsBare run × unread × untouched × WroteRefusal sink (notice fault.Words).text

-- neither object has failed
abbrev pub NoneFailed : Given → Type 0
NoneFailed g = (HasFailed g.source → ⊥) × (HasFailed g.sink → ⊥)

-- a text that has a script whose steps are possible is run to its end, unless there is no memory or something fails; `store` asks besides
-- that the disk tells that it holds a record with room for the changes
abbrev pub RunsAll : Given → Ending → RunData → DiskCall → Type 0
RunsAll g e run disk = NoneFailed g → IsReady g.command (run_changes run) disk
    → (script : ScriptData) → TellsScript (job g).origin g.source.bytes_before script → IsPossible (job g).way script
    → (e ≡ Done) ⊎ (e ≡ Refused fault.Memory)

-- a simulation whose cycle is longer than a pair counts by its head is refused for that, unless there is no memory
abbrev pub RefusesLong : Given → Ending → Type 0
RefusesLong g e = (cycle : ℕ) → g.command ≡ Simulate cycle → (HasFailed g.source → ⊥) → (simulation : ScriptData)
    → IsSomeAnd g.source.bytes_before (λ bytes. MeansScript form.Simulate (places_in g.crew) bytes simulation)
    → simulation.config.sct + 1 < cycle
    → (e ≡ Refused fault.Cycle) ⊎ (e ≡ Refused fault.Memory)

abbrev pub Completes : Given → Ending → RunData → DiskCall → Type 0
Completes g e run disk = RunsAll g e run disk × RefusesLong g e
