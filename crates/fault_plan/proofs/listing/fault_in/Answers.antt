use Rattle.std.proofs.Common.{◌∙◌, ◌≤◌, ap, sym, Some, arith}
use Rattle.fault_plan.proofs.ListedLemmas.{of_first, of_second}
use Rattle.fault_plan.proofs.listing.fault_in.Goals as goal

pub returns-then-place-lt-WHATS-clause-value : goal.returns-then-place-lt-WHATS-clause-value
returns-then-place-lt-WHATS-clause-value c =
    of_first c.args.tick c.args.place c.if-place-lt-WHATS.true ∙ ap Some (sym c.single.ensures)

pub returns-clause-value : goal.returns-clause-value
returns-clause-value c =
    let from : 23 ≤ c.args.place = omega (arith, c.if-place-lt-WHATS.false) in
    of_second c.args.tick c.args.place from c.requires ∙ ap Some (sym c.single-2.ensures)
