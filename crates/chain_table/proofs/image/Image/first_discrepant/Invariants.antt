use Rattle.std.proofs.Common.{◌≡◌, ℕ, ◌<◌, false}
use Rattle.lift_model.specs.Wires.{is_discrepant}
use Rattle.chain_table.proofs.image.Image.first_discrepant.Given as goal

abbrev pub invariant-loop-wire : goal.invariant-loop-wire
invariant-loop-wire l = (j : ℕ) → j < l.wire → is_discrepant l.self.words j ≡ false
