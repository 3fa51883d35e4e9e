use Rattle.std.proofs.Common.{◌≡◌, ◌++◌, length}
use Rattle.lift_io.specs.Puts.{AppendsUpTo}
use Rattle.script_model.specs.Report.{changes_of, changes_text, totals_text}
use Rattle.report.proofs.LastLines.{lines_left}
use Rattle.report.proofs.last.write_last.Given as goal

abbrev pub invariant-loop-i : goal.invariant-loop-i
invariant-loop-i g l =
    let changes = l.last.changes in
    let path = l.path.settled in
    record {
      text : AppendsUpTo (g.K.Sink.held l.fn.sink) (g.K.Sink.held l.sink) (changes_text changes path)
          (lines_left changes l.i ++ totals_text path (length (changes_of path)));
      calm : g.K.Sink.faults l.sink ≡ g.K.Sink.faults l.fn.sink;
    }
