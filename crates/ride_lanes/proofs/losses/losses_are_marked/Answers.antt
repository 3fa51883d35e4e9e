use Rattle.ride_lanes.proofs.LossLemmas.{marked}
use Rattle.ride_lanes.proofs.losses.losses_are_marked.Goals as goal

pub returns : goal.returns
returns c = λ path. marked path
