use Rattle.std.proofs.Common.{◌≡◌, ◌∙◌, map, sum, refl, ap, subst}
use Rattle.std.proofs.lemmas.List.{length-map}
use Rattle.std.proofs.lemmas.List.Sums.{sum-map}
use Rattle.ride_lanes.proofs.RunLemmas.{whole_length}
use Rattle.ride_lanes.specs.Cells.{cell_at}
use Rattle.ride_lanes.specs.Runs.{AreRuns, ticks_of}
use Rattle.rideview.specs.Data.{IsShownOf}
use Rattle.rideview.proofs.lane_data.lane_data_of.Goals as goal

pub returns : goal.returns
returns c =
    let moments = c.args.moments.now in
    let column = map (cell_at c.args.lane) moments in
    let bars = c.in_ok-bars.bars.items in
    let runs : AreRuns 1 column bars = c.in_ok-bars.ensures in
    let ticks : c.in_ok-ticks.ticks.items ≡ map ticks_of bars = c.in_ok-ticks.ensures ∙ ap (map ticks_of) c.deref.ensures.value in
    record {
      bars = bars;
      runs = runs;
      lane = refl;
      ticks = ticks;
      whole = ap sum ticks ∙ (sum-map ticks_of bars ∙ (whole_length 1 column bars runs ∙ length-map moments (cell_at c.args.lane)));
      shown = subst (λ all. IsShownOf all c.in_ok-shown.shown) c.deref-2.ensures.value c.in_ok-shown.ensures;
    }
