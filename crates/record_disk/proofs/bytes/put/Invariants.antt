use Rattle.std.proofs.Common.{ℕ, ◌≡◌, ◌<◌, length, get_or}
use Rattle.record_disk.specs.Image.{over}
use Rattle.record_disk.proofs.bytes.put.Given as goal

abbrev pub invariant-loop-k : goal.invariant-loop-k
invariant-loop-k l = record {
  long : length l.target.items ≡ length l.fn.target.items;
  bytes : (i : ℕ) → i < length l.fn.target.items → get_or l.target.items i 0 ≡ over l.at l.k l.bytes (λ j. get_or l.fn.target.items j 0) i;
}
