use Rattle.std.proofs.Common.{ap, sym}
use Rattle.lift_model.specs.Records.{InputData}
use Rattle.grant_model.proofs.senses.Senses.take.Goals as goal

pub returns-clause-stands : goal.returns-clause-stands
returns-clause-stands g c config inputs h =
    c.look.ensures.stands config inputs c.args.input.now (sym (ap (λ (i : InputData). i.words) c.input.view_is))
    (c.take.ensures config inputs h.sources) h.there h.watch

pub returns-clause-facts : goal.returns-clause-facts
returns-clause-facts g c config inputs h =
    c.look.ensures.facts config inputs c.args.input.now (sym (ap (λ (i : InputData). i.words) c.input.view_is))
    (c.take.ensures config inputs h.sources) h.there h.watch
