use Rattle.std.proofs.Common.{◌≡◌, drop, replicate}
use Rattle.lift_base.specs.declared.TheConstants.{SOURCES}
use Rattle.lift_io.specs.Puts.{AppendsUpTo}
use Rattle.script_model.specs.Text.{ticks_text}
use Rattle.script_writer.proofs.ticks.put_ticks.Given as goal

abbrev pub invariant-loop-i : goal.invariant-loop-i
invariant-loop-i g l = record {
  text : AppendsUpTo (g.K.Sink.held l.fn.sink) (g.K.Sink.held l.sink)
      (ticks_text (record { a = 0; b = 0 }) (replicate SOURCES 0) l.trace.inputs)
      (ticks_text (record { a = l.standing.a; b = l.standing.b }) l.standing.truth (drop l.i l.trace.inputs));
  calm : g.K.Sink.faults l.sink ≡ g.K.Sink.faults l.fn.sink;
}
