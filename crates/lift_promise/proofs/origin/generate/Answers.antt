use Rattle.lift_promise.proofs.origin.generate.Goals as goal

pub returns-in-Ok : goal.returns-in-Ok
returns-in-Ok c = (c.in-Ok.ensures.script, λ places. c.in-Ok.ensures.rules places)
