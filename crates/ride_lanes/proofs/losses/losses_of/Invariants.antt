use Rattle.std.proofs.Common.{◌≡◌}
use Rattle.ride_lanes.specs.Losses.{losses_to}
use Rattle.ride_lanes.proofs.losses.losses_of.Given as goal

-- the losses of the ticks so far
abbrev pub invariant-loop-before : goal.invariant-loop-before
invariant-loop-before l = l.losses.items ≡ losses_to l.path.settled l.before
