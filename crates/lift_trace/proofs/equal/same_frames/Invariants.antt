use Rattle.std.proofs.Common.{◌≡◌, take}
use Rattle.lift_trace.proofs.equal.same_frames.Given as goal

abbrev pub invariant-loop-i : goal.invariant-loop-i
invariant-loop-i l = take l.i l.xs ≡ take l.i l.ys
