use Rattle.std.proofs.Common.{◌≡◌, ◌++◌, length}
use Rattle.lift_io.specs.Puts.{AppendsUpTo}
use Rattle.script_model.specs.Report.{changes_of, totals_text}
use Rattle.script_model.specs.Rounds.{rounds_text}
use Rattle.report.proofs.RoundLines.{lines_left}
use Rattle.report.proofs.rounds.write_rounds.Given as goal

abbrev pub invariant-loop-before : goal.invariant-loop-before
invariant-loop-before g l =
    let path = l.run.path.settled in
    record {
      text : AppendsUpTo (g.K.Sink.held l.fn.sink) (g.K.Sink.held l.sink) (rounds_text path l.run.rounds)
          (lines_left path l.run.rounds l.before ++ totals_text path (length (changes_of path)));
      calm : g.K.Sink.faults l.sink ≡ g.K.Sink.faults l.fn.sink;
    }
