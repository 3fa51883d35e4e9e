use Rattle.std.proofs.Common.{◌≡◌}
use Rattle.fault_runs.specs.Lines.{first_to, is_lost_at}
use Rattle.fault_runs.proofs.lines.first_off.Given as goal

abbrev pub invariant-loop-before : goal.invariant-loop-before
invariant-loop-before l = l.first ≡ first_to l.before (is_lost_at l.path.settled l.usual.settled l.from)
