use Rattle.std.proofs.Common.{◌≡◌, ℕ, ◌<◌, ◌≤◌, length, slice_index, ◌==◌}
use Rattle.lift_model.specs.Bits.{some_below}
use Rattle.contact_input.specs.Rows.{next_row}
use Rattle.contact_input.proofs.rows.count_each.Given as goal
use Rattle.lift_base.specs.declared.wires.TheConstants.{WIRES}

abbrev pub invariant-loop-wire : goal.invariant-loop-wire
invariant-loop-wire l = record {
  long : length l.rows ≡ WIRES;
  done : (i : ℕ) → i < l.wire → slice_index l.rows i ≡ next_row l.disc l.words l.fn.rows i;
  left : (i : ℕ) → l.wire ≤ i → slice_index l.rows i ≡ slice_index l.fn.rows i;
  ended : l.ended ≡ some_below l.wire (λ i. next_row l.disc l.words l.fn.rows i == l.disc);
}
