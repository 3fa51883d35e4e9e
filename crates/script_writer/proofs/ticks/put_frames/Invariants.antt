use Rattle.std.proofs.Common.{◌≡◌, drop}
use Rattle.lift_io.specs.Puts.{AppendsUpTo}
use Rattle.script_model.specs.Text.{frames_text}
use Rattle.script_writer.proofs.ticks.put_frames.Given as goal

abbrev pub invariant-loop-i : goal.invariant-loop-i
invariant-loop-i g l = record {
  text : AppendsUpTo (g.K.Sink.held l.fn.sink) (g.K.Sink.held l.sink) (frames_text l.frames) (frames_text (drop l.i l.frames));
  calm : g.K.Sink.faults l.sink ≡ g.K.Sink.faults l.fn.sink;
}
