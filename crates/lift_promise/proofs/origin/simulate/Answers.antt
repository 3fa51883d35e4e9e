use Rattle.saboteur.specs.Held.{plans_of}
use Rattle.lift_promise.proofs.Producing.{made_for, none_for}
use Rattle.lift_promise.proofs.origin.simulate.Goals as goal

pub returns-in-Ok : goal.returns-in-Ok
returns-in-Ok g c =
    made_for (plans_of (λ x. (goal.Saboteur-dyn g x).plan x.1) c.args.crew.now) c.args.cycle c.in-Ok.script c.produced.result _
    c.in-Ok.ensures.0 c.in-Ok.ensures.1 c.produced.ensures

pub returns-in-Err : goal.returns-in-Err
returns-in-Err g c =
    none_for (plans_of (λ x. (goal.Saboteur-dyn g x).plan x.1) c.args.crew.now) c.args.cycle c.in-Err.fault _ c.in-Err.ensures
