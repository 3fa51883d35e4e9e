use Rattle.std.proofs.Common.{◌≡◌, ℕ, ◌<◌, ◌≤◌, false, get_or}
use Rattle.lift_model.specs.Bits.{has}
use Rattle.channel_masks.proofs.sets.set_of.Given as goal

abbrev pub invariant-loop-i : goal.invariant-loop-i
invariant-loop-i l = record {
  done : (j : ℕ) → j < l.i → has l.set j ≡ get_or l.tests j false;
  left : (j : ℕ) → l.i ≤ j → has l.set j ≡ false;
}
