use Rattle.std.proofs.Common.{ℕ, ◌≡◌, ◌<◌, false, length, get_or}
use Rattle.record_disk.specs.Image.{marked}
use Rattle.record_disk.proofs.bytes.mark.Given as goal

abbrev pub invariant-loop-k : goal.invariant-loop-k
invariant-loop-k l = record {
  long : length l.flags.items ≡ length l.fn.flags.items;
  marked : (i : ℕ) → i < length l.fn.flags.items → get_or l.flags.items i false ≡ marked l.at l.k (λ j. get_or l.fn.flags.items j false) i;
}
