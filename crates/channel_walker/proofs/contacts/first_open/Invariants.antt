use Rattle.std.proofs.Common.{◌≡◌, ℕ, ◌<◌, false}
use Rattle.lift_model.specs.Chain.{is_open, inoperative}
use Rattle.channel_walker.proofs.contacts.first_open.Given as goal

abbrev pub invariant-loop-i : goal.invariant-loop-i
invariant-loop-i l =
    (j : ℕ) → j < l.i → is_open l.image l.there (inoperative l.operation.mode l.operation.bypass_car l.operation.bypass_landing) j ≡ false
