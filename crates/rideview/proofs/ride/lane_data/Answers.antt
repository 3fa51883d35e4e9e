use Rattle.std.proofs.Common.{arith}
use Rattle.rideview.proofs.Placing.{together_took}
use Rattle.rideview.specs.Data.{IsLaneOf}
use Rattle.rideview.proofs.ride.lane_data.Goals as goal

pub loop-lane-preserved : goal.loop-lane-preserved
loop-lane-preserved c =
    together_took (λ row it. IsLaneOf row c.args.moments.now it) c.args.lanes.now c.loop-lane.all.items c.push.new.items.items
    c.loop-lane.lane-index _ c.in_ok-it.it (omega arith) c.loop-lane.invariant c.in_ok-it.ensures c.in_ok-push.ensures
