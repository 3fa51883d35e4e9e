use Rattle.std.proofs.Common.{◌≡◌, ◌≤◌, ◌+◌, drop, false}
use Rattle.lift_base.specs.declared.supplies.Supply.TheVariants as supply
use Rattle.script_model.specs.SupplyReport.{supply_changes}
use Rattle.report.proofs.supply.count_supply_changes.Given as goal

abbrev pub invariant-loop-before : goal.invariant-loop-before
invariant-loop-before l =
    let given = l.supplies.given in
    record {
      count : l.changes + supply_changes l.last l.alarm (drop l.before given) ≡ supply_changes supply.Off false given;
      few : l.changes ≤ l.before;
    }
