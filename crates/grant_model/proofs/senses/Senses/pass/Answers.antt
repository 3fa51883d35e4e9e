use Rattle.grant_model.proofs.senses.Senses.pass.Goals as goal

pub returns-clause-stands : goal.returns-clause-stands
returns-clause-stands g c config inputs x none words h =
    c.look.ensures.stands config inputs x words (c.pass.ensures config inputs x none h.sources) h.there h.watch

pub returns-clause-facts : goal.returns-clause-facts
returns-clause-facts g c config inputs x none words h =
    c.look.ensures.facts config inputs x words (c.pass.ensures config inputs x none h.sources) h.there h.watch
