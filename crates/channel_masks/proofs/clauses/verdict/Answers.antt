use Rattle.std.proofs.Common.{◌∙◌, ap}
use Rattle.lift_model.specs.Grant.{Facts, clauses, first_fault, verdict_from, verdict_of}
use Rattle.channel_masks.proofs.clauses.verdict.Goals as goal

pub returns : goal.returns
unfolding verdict_of
returns c =
    c.verdict_from.ensures ∙ (ap (verdict_from c.facts.inside.image) c.first_fault.ensures.value
    ∙ ap (λ (f : Facts). verdict_from f.image (first_fault 1 (clauses c.args.facts.now))) c.facts.view_is)
