use Rattle.std.proofs.Common.{◌∙◌, ◌≤◌, ◌<◌, ◌/◌, sym, arith}
use Rattle.fault_plan.proofs.ListedLemmas.{listed, unlisted}
use Rattle.fault_plan.proofs.listing.fault_at.Goals as goal

pub returns-then-before-from-clause-value : goal.returns-then-before-from-clause-value
returns-then-before-from-clause-value c =
    let many : c.args.ticks ≤ c.args.index / 46 = omega (arith, c.if-before-from.true, c.from.ensures) in
    sym (unlisted c.args.ticks c.args.index many)

pub returns-clause-value : goal.returns-clause-value
returns-clause-value c =
    let few : c.args.index / 46 < c.args.ticks = omega (arith, c.if-before-from.false, c.from.ensures) in
    sym c.fault_in.ensures.value ∙ sym (listed c.args.ticks c.args.index few)
