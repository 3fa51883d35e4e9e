use Rattle.std.proofs.Common.{◌≡◌, ◌≤◌, ◌+◌, drop}
use Rattle.script_model.specs.SupplyReport.{count_given}
use Rattle.report.proofs.supply.count_given.Given as goal

abbrev pub invariant-loop-before : goal.invariant-loop-before
invariant-loop-before l = record {
  count : l.on + count_given (drop l.before l.supplies.given) ≡ count_given l.supplies.given;
  few : l.on ≤ l.before;
}
