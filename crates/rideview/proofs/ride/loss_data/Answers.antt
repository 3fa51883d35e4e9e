use Rattle.std.proofs.Common.{arith}
use Rattle.rideview.proofs.Placing.{together_took}
use Rattle.rideview.specs.Data.{IsLossOf}
use Rattle.rideview.proofs.ride.loss_data.Goals as goal

pub loop-loss-preserved : goal.loop-loss-preserved
loop-loss-preserved c =
    together_took (λ loss it. IsLossOf loss c.args.moments.now it) c.args.losses.now c.loop-loss.all.items c.push.new.items.items
    c.loop-loss.loss-index _ c.in_ok-it.it (omega arith) c.loop-loss.invariant c.in_ok-it.ensures c.in_ok-push.ensures
