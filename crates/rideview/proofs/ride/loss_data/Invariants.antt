use Rattle.std.proofs.Common.{take}
use Rattle.rideview.specs.Data.{AreLossesOf}
use Rattle.rideview.proofs.ride.loss_data.Given as goal

-- there is the data of those so far
abbrev pub invariant-loop-loss : goal.invariant-loop-loss
invariant-loop-loss l = AreLossesOf (take l.loss-index l.losses) l.moments l.all.items
