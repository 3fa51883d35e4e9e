-- What is promised of a run, besides the core's own: power backed, the lock-out, open starts.
use Rattle.std.specs.Prelude.{ℕ, ◌≡◌, ◌+◌, ◌-◌, ◌<◌, ◌≤◌, List, length, get_or}
use Rattle.std.specs.declared.option.Option.{Option}
use Rattle.lift_model.specs.Enums.{Side}
use Rattle.lift_model.specs.Grant.{grant}
use Rattle.lift_model.specs.Plans.{Plan}
use Rattle.lift_model.specs.Records.{Settings, InputData}
use Rattle.lift_model.specs.Truth.{IsGenuine}
use Rattle.core_model.specs.Due.{IsUndisturbed, IsPlain}
use Rattle.core_model.specs.Machine.{State, Event}
use Rattle.core_model.specs.PlainPath.{plain_path}
use Rattle.core_model.specs.Runs.{is_healthy_at}
use Rattle.core_model.specs.Settling.{Settled, no_settled}
use Rattle.node_sim.specs.Audits.{SaysWhatIs}
use Rattle.node_sim.specs.Laws.{AreRecent, NeverMissing, AreTrueBehind}
use Rattle.lift_run.specs.Records.{RunData}
use Rattle.round_model.specs.Inline.{IsInlined}
use Rattle.round_model.specs.Lawful.{AreLegal}
use Rattle.round_model.specs.Parts.{CalmScript, is_healthy_by_script}
use Rattle.round_model.specs.Records.{RoundData}
use Rattle.script_model.specs.Judging.{ScriptData}
use Rattle.script_model.specs.Report.{report_text}
use Rattle.lift_making.specs.Jobs.{Way, ByRounds, BySteps}
use Rattle.lift_making.specs.Levelled.{IsSafelyGiven}
use Rattle.lift_front.specs.declared.command.Command.{Command}
use Rattle.lift_front.specs.declared.command.Command.TheVariants.{Audit, Level, Simulate}

-- ---- undisturbed

-- up to a tick up to which nothing disturbs the run, what was settled is what was due
abbrev pub DueIsSettled : Settings → List Event → State → Type 0
DueIsSettled config events s = (t : ℕ) → 0 < t → t ≤ length s.path → IsUndisturbed events t
    → IsPlain config s.trace t (get_or s.path (t - 1) no_settled)

-- and a kind that was granted at two ticks in a row is on at the tick behind them
abbrev pub GrantedIsOn : Settings → List Event → State → Type 0
GrantedIsOn config events s = (t : ℕ) → 0 < t → t + 2 ≤ length s.path → IsUndisturbed events (t + 2)
    → (grant config s.trace (t + 1)).kind ≡ (grant config s.trace t).kind
    → (get_or s.path (t + 1) no_settled).power ≡ (grant config s.trace t).kind

-- ---- by the script

-- the path of a script, where nothing disturbs its run
abbrev pub path_of : ScriptData → List Settled
path_of script = plain_path (grant script.config script.inputs) (length script.inputs)

-- what the script alone tells of a run by rounds: the machine takes its inputs, each failure and hold is one of its lines, an object's
-- deeds are as good as lines, and where no line fails or holds a side the report is a function of the script
pub record IsAsScript (crew : List (Option Plan)) (script : ScriptData) (rounds : List RoundData) (events : List Event)
    (s : State) : Type 0 where
  pub inputs : s.trace ≡ script.inputs
  pub ticks : length s.path ≡ length script.inputs
  pub healthy : (side : Side) (t : ℕ) → 0 < t → t ≤ length script.inputs
      → is_healthy_at side events t ≡ is_healthy_by_script side script.inputs t
  pub calm : (t : ℕ) → t ≤ length script.inputs → CalmScript script.inputs t → IsUndisturbed events t
  pub inlined : (lines : List InputData) → IsInlined crew script.inputs lines → AreLegal script.config crew lines rounds
  pub plain : CalmScript script.inputs (length script.inputs) → report_text s.path ≡ report_text (path_of script)

-- a schedule writes its events itself
abbrev pub IsTold : Way → ScriptData → List RoundData → List Event → State → Type 0
IsTold (ByRounds crew) script rounds events s = IsAsScript crew script rounds events s
IsTold BySteps script rounds events s = Unit {0}

-- ---- what a command shows

-- The trace of a simulation is genuine; from tick 7 on each configured source has a value, its true word at one tick of the cycle before,
-- so that the first clause never fails; and each value behind power was its source's true word at one tick of the cycle before the sample.
pub record IsTrueRun (cycle : ℕ) (script : ScriptData) (path : List Settled) : Type 0 where
  pub genuine : IsGenuine script.config script.inputs
  pub recent : AreRecent script.config cycle script.inputs
  pub missing : NeverMissing script.config script.inputs
  pub behind : AreTrueBehind script.config cycle script.inputs path

-- what a command says of its run is so
abbrev pub IsTrue : Command → ScriptData → RunData → Type 0
IsTrue Audit script run = SaysWhatIs script.config script.inputs run.path.settled
IsTrue Level script run = IsSafelyGiven script run
IsTrue (Simulate cycle) script run = IsTrueRun cycle script run.path.settled
IsTrue command script run = Unit {0}
