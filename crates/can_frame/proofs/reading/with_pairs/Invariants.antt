use Rattle.std.proofs.Common.{◌≡◌, length}
use Rattle.can_frame.specs.Spelling.{data_from}
use Rattle.can_frame.proofs.reading.with_pairs.Given as goal

abbrev pub invariant-loop-rest : goal.invariant-loop-rest
invariant-loop-rest l = record {
  same : data_from l.frame.bytes l.rest ≡ data_from l.fn.frame.bytes l.fn.pairs;
  id : l.frame.id ≡ l.fn.frame.id;
}

abbrev pub decreases-loop-rest : goal.decreases-loop-rest
decreases-loop-rest l = length l.rest
