use Rattle.std.proofs.Common.{◌≡◌, ◌≤◌, ◌+◌, drop}
use Rattle.script_model.specs.Report.{count_on}
use Rattle.report.proofs.totals.count_on.Given as goal

abbrev pub invariant-loop-before : goal.invariant-loop-before
invariant-loop-before l = record {
  count : l.on + count_on (drop l.before l.path.settled) ≡ count_on l.path.settled;
  few : l.on ≤ l.before;
}
