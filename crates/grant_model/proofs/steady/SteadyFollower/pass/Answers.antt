use Rattle.grant_model.proofs.steady.SteadyFollower.pass.Goals as goal

pub returns : goal.returns
returns g c config inputs x none words h =
    c.judge.ensures config inputs x (c.pass-facts.ensures.stands config inputs x none words h.senses)
    (c.pass-facts.ensures.facts config inputs x none words h.senses)
    (record { at = h.tells.at; verdict = h.tells.verdict; before = h.tells.before })
