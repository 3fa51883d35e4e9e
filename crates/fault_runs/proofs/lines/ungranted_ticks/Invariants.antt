use Rattle.std.proofs.Common.{◌≡◌, ◌≤◌}
use Rattle.fault_runs.specs.Lines.{count_to, is_ungranted_at}
use Rattle.fault_runs.proofs.lines.ungranted_ticks.Given as goal

abbrev pub invariant-loop-before : goal.invariant-loop-before
invariant-loop-before l = record {
  count : l.count ≡ count_to l.before (is_ungranted_at l.path.settled l.kinds);
  few : l.count ≤ l.before;
}
