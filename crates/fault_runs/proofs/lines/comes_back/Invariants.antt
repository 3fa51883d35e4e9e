use Rattle.std.proofs.Common.{◌≡◌}
use Rattle.lift_model.specs.Ticks.{some_to}
use Rattle.fault_runs.specs.Lines.{is_back_at}
use Rattle.fault_runs.proofs.lines.comes_back.Given as goal

abbrev pub invariant-loop-before : goal.invariant-loop-before
invariant-loop-before l = l.back ≡ some_to l.before (is_back_at l.path.settled l.off)
