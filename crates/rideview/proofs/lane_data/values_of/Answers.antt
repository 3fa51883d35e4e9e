use Rattle.std.proofs.Common.{arith}
use Rattle.rideview.proofs.Placing.{bar_placed}
use Rattle.rideview.proofs.lane_data.values_of.Goals as goal

pub loop-bar-preserved : goal.loop-bar-preserved
loop-bar-preserved c =
    let old = c.in_ok-place.ensures.old in
    bar_placed c.loop-bar.values.items c.place_of.new.values.items old.0 c.loop-bar.places.items c.push.new.items.items c.args.bars.now
    c.loop-bar.bar-index _ c.in_ok-place.place (omega arith) old.1 c.in_ok-push.ensures c.loop-bar.invariant c.in_ok-place.ensures.at
