use Rattle.std.proofs.Common.{ap, ◌∙◌}
use Rattle.lift_model.specs.Enums.{Mode}
use Rattle.channel_walker.specs.Details.{order, first_failing}
use Rattle.channel_walker.proofs.WalkLemmas.{order-is}
use Rattle.channel_walker.proofs.clauses.first_fault.Goals as goal

pub returns-clause-first : goal.returns-clause-first
returns-clause-first c =
    c.first_failing.ensures.first ∙ (ap (λ (m : Mode). first_failing c.args.facts.now m 1 order) c.requires ∙ order-is c.args.facts.now)
