use Rattle.std.proofs.Common.{◌≡◌, [], take}
use Rattle.lift_model.specs.Records.{Settings}
use Rattle.core_model.specs.Schedule.{scheduled}
use Rattle.lift_core.specs.StandsFor.{StandsFor}
use Rattle.lift_making.specs.Ways.{acts_of}
use Rattle.lift_making.proofs.schedule.play.Given as goal

abbrev pub invariant-loop-step : goal.invariant-loop-step
invariant-loop-step g l = (l.core.config ≡ l.fn.core.config) × ((config : Settings)
    → StandsFor g.CA.Channel.stands g.CB.Channel.stands l.fn.core config []
    → StandsFor g.CA.Channel.stands g.CB.Channel.stands l.core config (scheduled l.trace.inputs (acts_of (take l.step-index l.steps))))
