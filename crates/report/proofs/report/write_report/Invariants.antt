use Rattle.std.proofs.Common.{◌≡◌, ◌+◌, ◌++◌, length, drop}
use Rattle.lift_io.specs.Puts.{AppendsUpTo}
use Rattle.script_model.specs.Report.{report_text, changes_of, totals_text}
use Rattle.report.proofs.TickLines.{lines_left}
use Rattle.report.proofs.report.write_report.Given as goal

abbrev pub invariant-loop-before : goal.invariant-loop-before
invariant-loop-before g l =
    let path = l.path.settled in
    record {
      text : AppendsUpTo (g.K.Sink.held l.fn.sink) (g.K.Sink.held l.sink) (report_text path)
          (lines_left l.power l.alarm (l.before + 1) (drop l.before path) ++ totals_text path (length (changes_of path)));
      calm : g.K.Sink.faults l.sink ≡ g.K.Sink.faults l.fn.sink;
    }
