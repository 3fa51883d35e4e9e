-- The first clause that fails, by its place in the list of clauses.
use Rattle.std.proofs.Common.{◌≡◌, ℕ, zero, suc, ◌+◌, ◌<◌, Bool, true, false, List, [], ◌∷◌, length, get_or, Option, Some, None, cond, refl, sym, ◌∙◌, subst, arith}
use Rattle.std.specs.Prelude.{is_some, IfSome}
use Rattle.lift_model.specs.Bits.{first_below, or_else}
use Rattle.lift_model.specs.Grant.{first_fault}
use Rattle.lift_model.proofs.BitLemmas.{First, first_below-gives, first_below-none_gives}

found_at : (k : ℕ) (details : List (Option ℕ)) (i d : ℕ) → get_or details i None ≡ Some d
    → ((j : ℕ) → j < i → is_some (get_or details j None) ≡ false) → first_fault k details ≡ Some (k + i, d)
found_at k [] i d e h = absurd (cc)
found_at k (Some x ∷ rest) zero d e h = let at : k + 0 ≡ k = omega arith in let same : x ≡ d = cc in rw (at, same) refl
found_at k (Some x ∷ rest) (suc i) d e h = absurd (cc (h 0 (omega arith)))
found_at k (None ∷ rest) zero d e h = absurd (cc)
found_at k (None ∷ rest) (suc i) d e h =
    let at : k + 1 + i ≡ k + suc i = omega arith in
    subst (λ (n : ℕ). first_fault (k + 1) rest ≡ Some (n, d)) at (found_at (k + 1) rest i d e (λ j l. h (suc j) (omega arith)))

none_at : (k : ℕ) (details : List (Option ℕ)) → ((j : ℕ) → j < length details → is_some (get_or details j None) ≡ false)
    → first_fault k details ≡ None
none_at k [] h = refl
none_at k (Some x ∷ rest) h = absurd (cc (h 0 (omega arith)))
none_at k (None ∷ rest) h = none_at (k + 1) rest (λ j l. h (suc j) (omega arith))

pub first_fault-found : (details : List (Option ℕ)) (n i d : ℕ)
    → Some i ≡ first_below n (λ j. is_some (get_or details j None)) → get_or details i None ≡ Some d
    → first_fault 1 details ≡ Some (i + 1, d)
first_fault-found details n i d e at =
    let turned : 1 + i ≡ i + 1 = omega arith in
    subst (λ (k : ℕ). first_fault 1 details ≡ Some (k, d)) turned (found_at 1 details i d at (first_below-gives n _ i (sym e)).earlier)

pub first_fault-none : (details : List (Option ℕ)) → None ≡ first_below (length details) (λ j. is_some (get_or details j None))
    → first_fault 1 details ≡ None
first_fault-none details e = none_at 1 details (first_below-none_gives (length details) _ (sym e))

pub first_below-within : (n : ℕ) (p : ℕ → Bool) (o : Option ℕ) → o ≡ first_below n p → IfSome o (λ i. i < n)
first_below-within n p None e = tt
first_below-within n p (Some i) e = (first_below-gives n p i (sym e)).below

pub first_below-passes : (n : ℕ) (p : ℕ → Bool) (o : Option ℕ) → o ≡ first_below n p → IfSome o (λ i. p i ≡ true)
first_below-passes n p None e = tt
first_below-passes n p (Some i) e = (first_below-gives n p i (sym e)).passes
