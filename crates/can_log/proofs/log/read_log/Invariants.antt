use Rattle.std.proofs.Common.{◌≡◌, ◌+◌, ◌≤◌, length}
use Rattle.std.specs.List.{slice_split}
use Rattle.can_log.specs.Taken.{at_lines, log_of}
use Rattle.can_log.proofs.Cuts.{is_feed}
use Rattle.can_log.proofs.log.read_log.Given as goal

abbrev pub invariant-loop-line : goal.invariant-loop-line
invariant-loop-line l = record {
  comes : at_lines l.log l.number (slice_split is_feed l.rest) ≡ log_of l.fn.taking l.fn.text;
  few : l.number + length l.rest ≤ length l.fn.text + 1;
}

abbrev pub decreases-loop-line : goal.decreases-loop-line
decreases-loop-line l = length l.rest
