use Rattle.std.proofs.Common.{◌≡◌, ◌+◌, ℕ, take, length, slice_get, Some}
use Rattle.ride_lanes.specs.Moments.{IsMoment}
use Rattle.ride_lanes.specs.Watches.{Watches}
use Rattle.ride_lanes.specs.declared.moments.Moment.{Moment}
use Rattle.ride_lanes.proofs.moments.moments_of.Given as goal

-- the watcher took the ticks so far, and there is a moment for each
abbrev pub invariant-loop-at : goal.invariant-loop-at
invariant-loop-at l = record {
  watches : Watches l.watcher l.script.config (take l.at l.script.inputs);
  count : length l.moments.items ≡ l.at;
  each : (i : ℕ) (moment : Moment) → slice_get l.moments.items i ≡ Some moment → IsMoment l.script l.run (i + 1) moment;
}
