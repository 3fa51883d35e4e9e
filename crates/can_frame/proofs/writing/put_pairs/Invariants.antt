use Rattle.std.proofs.Common.{◌≡◌, drop}
use Rattle.std.specs.List.{flat_map}
use Rattle.lift_io.specs.Puts.{AppendsUpTo}
use Rattle.can_frame.specs.Spelling.{hex2}
use Rattle.can_frame.proofs.writing.put_pairs.Given as goal

abbrev pub invariant-loop-byte : goal.invariant-loop-byte
invariant-loop-byte g l = record {
  text : AppendsUpTo (g.K.Sink.held l.fn.sink) (g.K.Sink.held l.sink) (flat_map hex2 l.bytes) (flat_map hex2 (drop l.byte-index l.bytes));
  calm : g.K.Sink.faults l.sink ≡ g.K.Sink.faults l.fn.sink;
}
