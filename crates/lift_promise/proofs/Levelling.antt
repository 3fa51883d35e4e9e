-- The supplies over a run are safe.
use Rattle.std.proofs.Common.{◌≡◌, ◌<◌, ℕ, ◌+◌, ◌-◌, length, get_or, take, sym, ap, ◌∙◌, subst, arith, true}
use Rattle.lift_model.specs.Levelling.{has_moved}
use Rattle.core_model.specs.Settling.{no_settled}
use Rattle.core_model.specs.Supplies.{GivenData, given_at}
use Rattle.level_guard.specs.Permitted.{IsPermitted}
use Rattle.level_guard.proofs.Permits.{level_given, power_given, moved_given}
use Rattle.level_guard.proofs.SupplyLemmas.{supplies-at, supplies-length}
use Rattle.lift_run.specs.Records.{RunData}
use Rattle.script_model.specs.Judging.{ScriptData}
use Rattle.lift_making.specs.Levelled.{given_after, IsSafelyGiven}

module _ (script : ScriptData) (run : RunData) where
  at_tick : (n : ℕ) → n < length run.path.settled
      → given_after script run n ≡ given_at script.config script.inputs (n + 1) (get_or run.path.settled n no_settled)
  at_tick n lt = supplies-at script.config script.inputs run.path.settled n lt

  pub safely_given : IsSafelyGiven script run
  safely_given = record {
    ticks = supplies-length script.config script.inputs run.path.settled;
    power = λ n lt k on is. power_given script.config script.inputs (n + 1) (get_or run.path.settled n no_settled) k on
        (ap (λ (g : GivenData). g.supply) (sym (at_tick n lt)) ∙ is);
    level = λ n lt is.
        (let back : n + 1 - 1 ≡ n = omega arith in
        let it = level_given script.config script.inputs (n + 1) (get_or run.path.settled n no_settled)
        (ap (λ (g : GivenData). g.supply) (sym (at_tick n lt)) ∙ is) in
        subst (λ (t : ℕ). IsPermitted script.config (take t script.inputs)) back it);
    moved = λ n lt is.
        (let back : n ≡ n + 1 - 1 = omega arith in
        ap (λ (g : GivenData). g.supply) (at_tick n lt) ∙ moved_given script.config script.inputs (n + 1)
        (get_or run.path.settled n no_settled)
        (subst (λ (t : ℕ). has_moved script.config (take t script.inputs) ≡ true) back is));
  }
