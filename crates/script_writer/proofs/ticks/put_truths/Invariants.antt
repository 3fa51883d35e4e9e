use Rattle.std.proofs.Common.{◌≡◌, ◌+◌, drop}
use Rattle.lift_io.specs.Puts.{AppendsUpTo}
use Rattle.script_model.specs.Text.{truth_part}
use Rattle.script_writer.proofs.ticks.put_truths.Given as goal

abbrev pub invariant-loop-i : goal.invariant-loop-i
invariant-loop-i g l = record {
  text : AppendsUpTo (g.K.Sink.held l.fn.sink) (g.K.Sink.held l.sink) (truth_part 1 l.before l.words)
      (truth_part (l.i + 1) (drop l.i l.before) (drop l.i l.words));
  calm : g.K.Sink.faults l.sink ≡ g.K.Sink.faults l.fn.sink;
}
