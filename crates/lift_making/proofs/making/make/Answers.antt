use Rattle.saboteur.specs.Held.{plans_of}
use Rattle.lift_making.proofs.making.make.Goals as goal

pub returns-in-Schedule-clause-makes : goal.returns-in-Schedule-clause-makes
returns-in-Schedule-clause-makes g c =
    rw c.in-Schedule.is (c.schedule.ensures.makes (plans_of (λ x. (goal.Saboteur-dyn g x).plan x.1) c.args.crew))
