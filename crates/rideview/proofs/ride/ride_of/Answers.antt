use Rattle.std.proofs.Common.{◌∙◌, length, sym, ap, subst}
use Rattle.contactor_pair.specs.Settles.{PathData}
use Rattle.ride_lanes.specs.Losses.{losses_of}
use Rattle.rideview.specs.Data.{AreLanesOf, AreLossesOf}
use Rattle.rideview.proofs.ride.ride_of.Goals as goal

pub returns : goal.returns
returns c =
    let moments = c.in_ok-moments.moments.items in
    let lanes = c.in_ok-lane_data.field-0.items in
    let losses = c.in_ok-loss_data.field-0.items in
    record {
      moments = moments;
      are = c.in_ok-moments.ensures.moments;
      ticks = c.len.ensures ∙ (sym c.deref-2.ensures.len ∙ ap length c.deref-2.ensures.value);
      rows = c.deref.result.now;
      lanes = subst (λ ms. AreLanesOf c.deref.result.now ms lanes) c.deref-2.ensures.value c.in_ok-lane_data.ensures;
      losses = subst (λ ls. AreLossesOf ls moments losses)
          (c.deref-3.ensures.value ∙ (c.in_ok-losses.ensures ∙ ap (λ (path : PathData). losses_of path.settled) c.path.ensures))
          (subst (λ ms. AreLossesOf c.deref-3.result.now ms losses) c.deref-4.ensures.value c.in_ok-loss_data.ensures);
    }
