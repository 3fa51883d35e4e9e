-- What a command does: a row for each. All own.
use Rattle.std.specs.Prelude.{ℕ, List}
use Rattle.std.specs.declared.option.Option.{Option}
use Rattle.lift_base.specs.declared.forms.Form.TheVariants as form
use Rattle.lift_model.specs.Plans.{Plan}
use Rattle.lift_run.specs.Records.{RunData}
use Rattle.saboteur.specs.Held.{places_in}
use Rattle.lift_making.specs.Levelled.{supplies_report}
use Rattle.node_sim.specs.Audited.{audited}
use Rattle.script_model.specs.Audit.{audit_text}
use Rattle.script_model.specs.Generated.{generated}
use Rattle.script_model.specs.Judging.{ScriptData}
use Rattle.script_model.specs.Last.{last_text}
use Rattle.script_model.specs.Report.{report_text}
use Rattle.script_model.specs.Rounds.{rounds_text}
use Rattle.script_model.specs.Summary.{summary_text}
use Rattle.lift_front.specs.Scripts.{Origin, Text, Produced, Told}
use Rattle.lift_front.specs.declared.command.Command.{Command}
use Rattle.lift_front.specs.declared.command.Command.TheVariants.{Replay, Rounds, Audit, Last, Load, Level, Schedule, Simulate, Store}

-- how it is run
pub data Way : Type 0 where
  -- on two threads, one round a tick; these are the plans that the crew's places tell
  ByRounds : List (Option Plan) → Way
  -- the core takes the steps that it writes
  BySteps : Way

-- what a command does, and the text that it prints of a script and its run
pub record Job : Type 0 where
  pub origin : Origin
  pub way : Way
  pub text : ScriptData → RunData → List ℕ

abbrev pub report_of : RunData → List ℕ
report_of run = report_text run.path.settled

abbrev pub rounds_of : RunData → List ℕ
rounds_of run = rounds_text run.path.settled run.rounds

-- what an audit says of them
abbrev pub audit_of : ScriptData → RunData → List ℕ
audit_of script run = audit_text (audited script.config script.inputs run.path.settled) run.path.settled

abbrev pub last_changes_of : ℕ → RunData → List ℕ
last_changes_of n run = last_text n run.path.settled

abbrev pub summary_of : ℕ → RunData → List ℕ
summary_of number run = summary_text number run.path.settled

-- what a command does with this crew, of which the plan of each place counts
abbrev pub job_of : List (Option Plan) → Command → Job
job_of crew Replay = record { origin = Text form.Replay (places_in crew); way = ByRounds crew; text = λ _. report_of }
job_of crew Rounds = record { origin = Text form.Replay (places_in crew); way = ByRounds crew; text = λ _. rounds_of }
job_of crew Audit = record { origin = Text form.Replay (places_in crew); way = ByRounds crew; text = audit_of }
job_of crew (Last n) = record { origin = Text form.Replay (places_in crew); way = ByRounds crew; text = λ _. last_changes_of n }
job_of crew (Load number) = record { origin = Told (generated number); way = ByRounds crew; text = λ _. summary_of number }
job_of crew Level = record { origin = Text form.Replay (places_in crew); way = ByRounds crew; text = supplies_report }
job_of crew Schedule = record { origin = Text form.Schedule (places_in crew); way = BySteps; text = λ _. report_of }
job_of crew (Simulate cycle) = record { origin = Produced cycle (places_in crew); way = ByRounds crew; text = λ _. report_of }
-- behind it comes the line of the count (Storing)
job_of crew Store = record { origin = Text form.Replay (places_in crew); way = ByRounds crew; text = λ _. report_of }
