use Rattle.std.proofs.Common.{take}
use Rattle.rideview.specs.Data.{AreLanesOf}
use Rattle.rideview.proofs.ride.lane_data.Given as goal

-- there is the data of those so far
abbrev pub invariant-loop-lane : goal.invariant-loop-lane
invariant-loop-lane l = AreLanesOf (take l.lane-index l.lanes) l.moments l.all.items
