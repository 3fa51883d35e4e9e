use Rattle.std.proofs.Common.{ℕ, ◌≡◌, ◌<◌, length, get_or}
use Rattle.record_disk.proofs.bytes.padded.Given as goal

abbrev pub invariant-loop-k : goal.invariant-loop-k
invariant-loop-k l = record {
  long : length l.all ≡ 16;
  same : (i : ℕ) → i < l.k → get_or l.all i 0 ≡ get_or l.bytes i 0;
}
