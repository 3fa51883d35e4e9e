use Rattle.std.proofs.Common.{◌≡◌, ◌≤◌, ◌+◌, drop, length}
use Rattle.script_model.specs.Report.{changes_of, changes_from}
use Rattle.report.proofs.totals.count_changes.Given as goal

abbrev pub invariant-loop-before : goal.invariant-loop-before
invariant-loop-before l =
    let path = l.path.settled in
    record {
      count : l.changes + length (changes_from l.power l.alarm (l.before + 1) (drop l.before path)) ≡ length (changes_of path);
      few : l.changes ≤ l.before;
    }
