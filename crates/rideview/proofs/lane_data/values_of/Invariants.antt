use Rattle.std.proofs.Common.{map, take}
use Rattle.rideview.specs.Data.{IsAt, Together, cell_of}
use Rattle.rideview.proofs.lane_data.values_of.Given as goal

-- each bar so far has the place of its value
abbrev pub invariant-loop-bar : goal.invariant-loop-bar
invariant-loop-bar l = Together (IsAt l.values.items) l.places.items (map cell_of (take l.bar-index l.bars))
