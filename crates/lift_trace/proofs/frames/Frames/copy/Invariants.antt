use Rattle.std.proofs.Common.{◌≡◌, ◌≤◌, ◌++◌, drop, length}
use Rattle.lift_trace.proofs.frames.Frames.copy.Given as goal

abbrev pub invariant-loop-frame : goal.invariant-loop-frame
invariant-loop-frame l = (l.frames ++ drop l.frame-index l.frame-items ≡ l.frame-items) × (length l.frame-items ≤ 16)
