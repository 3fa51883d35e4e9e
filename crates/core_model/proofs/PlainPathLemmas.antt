-- The plain path, tick by tick.
use Rattle.std.proofs.Common.{◌≡◌, ℕ, zero, suc, ◌+◌, ◌-◌, ◌<◌, ◌∷◌, length, refl, ap, ◌∙◌, arith}
use Rattle.lift_base.specs.Ruling.{Ruling, initial}
use Rattle.core_model.specs.Due.{due_after, due, due_command}
use Rattle.core_model.specs.PlainPath.{due_before, plain_settled, plain_from}
use Rattle.core_model.proofs.DueLemmas.{command_for}

-- before the first tick as at each later one, where the first verdict is the initial one
pub due-step : (v : ℕ → Ruling) (n : ℕ) → v 0 ≡ initial → due v n ≡ due_after (due_before v n) (v n).kind
unfolding due
due-step v zero first = rw first refl
due-step v (suc n) first = refl

pub due_command-step : (v : ℕ → Ruling) (n : ℕ) → v 0 ≡ initial → due_command v n ≡ command_for n (due v n) (v n)
unfolding due
due_command-step v zero first = rw first refl
due_command-step v (suc n) first = refl

pub length-plain_from : (v : ℕ → Ruling) (before n : ℕ) → length (plain_from v before n) ≡ n
length-plain_from v before zero = refl
length-plain_from v before (suc n) = ap suc (length-plain_from v (suc before) n)

pub plain_from-more : (v : ℕ → Ruling) (before n : ℕ) → before < n → plain_from v before (n - before) ≡ plain_settled v before
    ∷ plain_from v (before + 1) (n - (before + 1))
plain_from-more v before n lt =
    let e : n - before ≡ suc (n - (before + 1)) = omega arith in
    let f : suc before ≡ before + 1 = omega arith in
    ap (plain_from v before) e ∙ ap (λ k. plain_settled v before ∷ plain_from v k (n - (before + 1))) f
