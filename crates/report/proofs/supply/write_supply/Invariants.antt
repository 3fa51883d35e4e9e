use Rattle.std.proofs.Common.{◌≡◌, ◌+◌, ◌++◌}
use Rattle.lift_io.specs.Puts.{AppendsUpTo}
use Rattle.script_model.specs.SupplyReport.{supply_text, supply_totals}
use Rattle.report.proofs.SupplyLines.{lines_left}
use Rattle.report.proofs.supply.write_supply.Given as goal

abbrev pub invariant-loop-before : goal.invariant-loop-before
invariant-loop-before g l =
    let given = l.supplies.given in
    let path = l.path.settled in
    record {
      text : AppendsUpTo (g.K.Sink.held l.fn.sink) (g.K.Sink.held l.sink) (supply_text given path)
          (lines_left l.last l.alarm given path l.before ++ supply_totals given);
      calm : g.K.Sink.faults l.sink ≡ g.K.Sink.faults l.fn.sink;
    }
