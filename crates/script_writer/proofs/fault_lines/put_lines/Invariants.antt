use Rattle.std.proofs.Common.{◌≡◌, drop}
use Rattle.std.specs.List.{flat_map}
use Rattle.lift_io.specs.Puts.{AppendsUpTo}
use Rattle.script_model.specs.Text.{given_text}
use Rattle.script_writer.proofs.fault_lines.put_lines.Given as goal

abbrev pub invariant-loop-line : goal.invariant-loop-line
invariant-loop-line g l = record {
  text : AppendsUpTo (g.K.Sink.held l.fn.sink) (g.K.Sink.held l.sink) (flat_map (given_text l.side) l.lines)
      (flat_map (given_text l.side) (drop l.line-index l.lines));
  calm : g.K.Sink.faults l.sink ≡ g.K.Sink.faults l.fn.sink;
}
