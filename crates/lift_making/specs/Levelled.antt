-- What the levelling gate gives over the run of a script, its report, and what is promised of it.
use Rattle.std.specs.Prelude.{ℕ, ◌≡◌, ◌<◌, true, false, List, length, get_or, take}
use Rattle.lift_base.specs.declared.supplies.Supply.TheVariants as supply
use Rattle.lift_model.specs.Enums.{Kind}
use Rattle.lift_model.specs.Levelling.{has_moved}
use Rattle.core_model.specs.Settling.{no_settled}
use Rattle.core_model.specs.Supplies.{GivenData, nothing_given, supply_of, supplies_of}
use Rattle.core_model.specs.Words.{is_off}
use Rattle.level_guard.specs.Permitted.{IsPermitted}
use Rattle.lift_run.specs.Records.{RunData}
use Rattle.script_model.specs.Judging.{ScriptData}
use Rattle.script_model.specs.SupplyReport.{supply_text}

-- what is given at each tick of a run of the script
abbrev pub given_over : ScriptData → RunData → List GivenData
given_over script run = supplies_of script.config script.inputs run.path.settled

-- the report of it
abbrev pub supplies_report : ScriptData → RunData → List ℕ
supplies_report script run = supply_text (given_over script run) run.path.settled

-- what is given at the tick after so many
abbrev pub given_after : ScriptData → RunData → ℕ → GivenData
given_after script run n = get_or (given_over script run) n nothing_given

-- At the tick after n: a supply of a kind is on only where the settled power is of that kind; levelling is on only where tick n permits it;
-- and there is no supply where an unintended movement stands at tick n.
pub record IsSafelyGiven (script : ScriptData) (run : RunData) : Type 0 where
  pub ticks : length (given_over script run) ≡ length run.path.settled
  pub power : (n : ℕ) → n < length run.path.settled → (k : Kind) → is_off k ≡ false → (given_after script run n).supply ≡ supply_of k
      → (get_or run.path.settled n no_settled).power ≡ k
  pub level : (n : ℕ) → n < length run.path.settled → (given_after script run n).supply ≡ supply.Level
      → IsPermitted script.config (take n script.inputs)
  pub moved : (n : ℕ) → n < length run.path.settled → has_moved script.config (take n script.inputs) ≡ true
      → (given_after script run n).supply ≡ supply.Off
