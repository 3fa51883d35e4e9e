use Rattle.std.proofs.Common.{◌≡◌, ◌≤◌, drop}
use Rattle.lift_io.specs.Puts.{AppendsUpTo}
use Rattle.can_log.specs.Scripts.{all_zero}
use Rattle.can_log.specs.RunsText.{runs_text}
use Rattle.can_log.proofs.writing.put_runs.Given as goal

abbrev pub invariant-loop-i : goal.invariant-loop-i
invariant-loop-i g l = record {
  text : AppendsUpTo (g.K.Sink.held l.fn.sink) (g.K.Sink.held l.sink)
      (runs_text all_zero 0 l.trace.inputs)
      (runs_text (record { a = l.words.a; b = l.words.b }) l.n (drop l.i l.trace.inputs));
  calm : g.K.Sink.faults l.sink ≡ g.K.Sink.faults l.fn.sink;
  few : l.n ≤ l.i;
}
