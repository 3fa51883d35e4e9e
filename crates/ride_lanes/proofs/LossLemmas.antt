-- The losses of one tick more, and that each loss is among them, and nothing else.
use Rattle.std.proofs.Common.{◌≡◌, ℕ, zero, suc, ◌+◌, ◌<◌, List, [], ◌++◌, length, refl, sym, ap, subst, add-one, arith, inl, inr}
use Rattle.std.proofs.lemmas.Bool.{cases_lt}
use Rattle.std.proofs.lemmas.List.Elements.{Contains-append_left, Contains-append_right, Contains-append_cases, Contains-push, Contains-push_cases}
use Rattle.std.specs.Prelude.{Contains, option_to_list, Option, Some, None}
use Rattle.core_model.specs.Settling.{Settled}
use Rattle.ride_lanes.specs.declared.losses.Loss.{Loss}
use Rattle.ride_lanes.specs.Losses.{AreLosses, loss_of, losses_of, losses_to}

pub losses-next : (path : List Settled) (n : ℕ) → losses_to path (n + 1) ≡ losses_to path n ++ option_to_list (loss_of path (n + 1))
losses-next path n = rw add-one refl

some_listed : (found : Option Loss) (loss : Loss) → found ≡ Some loss → Contains (option_to_list found) loss
some_listed found loss e = subst (λ (o : Option Loss). Contains (option_to_list o) loss) (sym e) (Contains-push [] loss)

-- what is listed of an option is what it has
listed_is : (found : Option Loss) (loss : Loss) → Contains (option_to_list found) loss → found ≡ Some loss
listed_is None loss h = absurd (omega (arith, h.1))
listed_is (Some x) loss h = elim (Contains-push_cases [] x loss h) [
  | inl none ↦ absurd (omega (arith, none.1))
  | inr same ↦ ap Some same
]

each_to : (path : List Settled) (n t : ℕ) (loss : Loss) → t < n → loss_of path (t + 1) ≡ Some loss → Contains (losses_to path n) loss
each_to path zero t loss h e = absurd (omega arith)
each_to path (suc n) t loss h e = elim (cases_lt t n) [
  | inl old ↦ Contains-append_left (losses_to path n) (option_to_list (loss_of path (suc n))) loss (each_to path n t loss old e)
  | inr new ↦ (let here : t + 1 ≡ suc n = omega arith in
      Contains-append_right (losses_to path n) (option_to_list (loss_of path (suc n))) loss
      (some_listed (loss_of path (suc n)) loss (subst (λ (k : ℕ). loss_of path k ≡ Some loss) here e)))
]

only_to : (path : List Settled) (n : ℕ) (loss : Loss) → Contains (losses_to path n) loss
    → (t : ℕ) × (t < n) × (loss_of path (t + 1) ≡ Some loss)
only_to path zero loss h = absurd (omega (arith, h.1))
only_to path (suc n) loss h =
    elim (Contains-append_cases (losses_to path n) (option_to_list (loss_of path (suc n))) loss h) [
      | inl old ↦ (let was = only_to path n loss old in (was.0, omega (arith, was.1), was.2))
      | inr new ↦ (
        n,
        omega arith,
        (let here : suc n ≡ n + 1 = omega arith in
            subst (λ (k : ℕ). loss_of path k ≡ Some loss) here (listed_is (loss_of path (suc n)) loss new)),
      )
    ]

pub marked : (path : List Settled) → AreLosses path (losses_of path)
unfolding losses_of
marked path = record { each = each_to path (length path); only = only_to path (length path) }
