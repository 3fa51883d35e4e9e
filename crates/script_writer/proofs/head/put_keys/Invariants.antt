use Rattle.std.proofs.Common.{◌≡◌, drop}
use Rattle.std.specs.List.{flat_map}
use Rattle.lift_io.specs.Puts.{AppendsUpTo}
use Rattle.script_model.specs.Text.{key_text}
use Rattle.script_writer.proofs.head.put_keys.Given as goal

abbrev pub invariant-loop-key : goal.invariant-loop-key
invariant-loop-key g l = record {
  text :
      AppendsUpTo (g.K.Sink.held l.fn.sink) (g.K.Sink.held l.sink) (flat_map key_text l.keys) (flat_map key_text (drop l.key-index l.keys));
  calm : g.K.Sink.faults l.sink ≡ g.K.Sink.faults l.fn.sink;
}
