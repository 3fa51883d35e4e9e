-- What a command makes of a script, and what is shown of it.
use Rattle.std.specs.Prelude.{ℕ, ◌≡◌, ◌<◌, ◌+◌, List, length, IfSome, None}
use Rattle.lift_run.specs.Records.{RunData}
use Rattle.script_model.specs.Audit.{IsOfSource, audit_text}
use Rattle.script_model.specs.Judging.{ScriptData}
use Rattle.script_model.specs.Report.{changes_text}
use Rattle.script_model.specs.SupplyReport.{supply_text}
use Rattle.lift_front.specs.Calls.{Call, IsCalm}
use Rattle.lift_making.specs.Jobs.{Job, report_of, rounds_of, summary_of}
use Rattle.lift_front.specs.Scripts.{HasScript}
use Rattle.lift_making.specs.Ways.{RunOf}
use Rattle.lift_front.specs.declared.fault.Fault.{Fault}
use Rattle.lift_front.specs.declared.fault.Fault.TheVariants as fault
use Rattle.lift_making.specs.declared.making.Made.{Made}
use Rattle.lift_making.specs.declared.making.Page.{Page}
use Rattle.lift_making.specs.declared.making.Page.TheVariants.{Report, Rounds, Audit, Last, Summary, Supplies}

-- the text of a page, where this run is handed back
abbrev pub page_text : Page → RunData → List ℕ
page_text Report run = report_of run
page_text Rounds run = rounds_of run
page_text (Audit audit) run = audit_text audit run.path.settled
page_text (Last last) run = changes_text last.changes run.path.settled
page_text (Summary number) run = summary_of number run
page_text (Supplies supplies) run = supply_text supplies.given run.path.settled

-- a run that the page can show
abbrev pub CanShow : Page → RunData → Type 0
CanShow Rounds run = length run.rounds ≡ length run.path.settled
CanShow (Audit audit) run = IfSome audit.wrong IsOfSource
CanShow (Supplies supplies) run = length supplies.given ≡ length run.path.settled
CanShow _ run = Unit {0}

-- the script was run, and where it came to its end the page has the job's text
abbrev pub Makes : Job → ScriptData → Made → Type 0
Makes job script made = RunOf job.way script made.stopped_at made.run.rounds made.run.path.settled
    × (made.stopped_at ≡ None → page_text made.page made.run ≡ job.text script made.run)

-- the script is that of the job, and the source never failed
pub record IsFor (job : Job) (script : ScriptData) (source : Call) : Type 0 where
  pub calm : IsCalm source
  pub has : HasScript job.origin source.bytes_before script

-- why nothing is produced of a simulation: its cycle is longer than a pair counts, or there is no memory
abbrev pub IsNotMade : Fault → ℕ → ScriptData → Type 0
IsNotMade fault.Memory cycle script = Unit {0}
IsNotMade fault.Cycle cycle script = script.config.sct + 1 < cycle
IsNotMade f cycle script = ⊥
