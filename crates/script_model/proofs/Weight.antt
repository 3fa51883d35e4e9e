-- Lines are few: each that goes on makes a place weigh more, and the ticks of the head bound its weight.
use Rattle.std.proofs.Common.{◌≤◌, ◌+◌, ◌-◌, ◌∷◌, ℕ, arith, length-append, replicate}
use Rattle.std.proofs.lemmas.List.{length-replicate}
use Rattle.lift_base.specs.declared.limits.TheConstants.{MOST_LINES}
use Rattle.script_model.specs.Judging.{Place, weight, ticked, input_at, input_on}

pub ticked_weight : (p : Place) (number n : ℕ) → 1 ≤ n → p.others ≤ MOST_LINES → weight p + 1 ≤ weight (ticked p number n)
ticked_weight p number n some few =
    let a = length-append p.script.inputs (input_at p ∷ replicate (n - 1) (input_on p)) in
    let b = length-replicate (n - 1) (input_on p) in
    grind (arith, a, b)
