-- No `<` is left of a text.
use Rattle.std.proofs.Common.{◌≡◌, ◌≢◌, ℕ, ◌==◌, List, [], ◌∷◌, ◌++◌, Bool, true, false, if◌then◌else◌, refl, arith}
use Rattle.rideview.specs.Safe.{HasNoMarkup, safe, safe_byte}

joined : (xs ys : List ℕ) → HasNoMarkup xs → HasNoMarkup ys → HasNoMarkup (xs ++ ys)
joined [] ys h k = k
joined (x ∷ xs) ys h k = (h.0, joined xs ys h.1 k)

either : (b : Bool) (x : ℕ) → (b ≡ false → x ≢ 60) → HasNoMarkup (if b then 92 ∷ 117 ∷ 48 ∷ 48 ∷ 51 ∷ 99 ∷ [] else x ∷ [])
either true x h = (
  λ e. omega (arith, e),
  (
    λ e. omega (arith, e),
    (
      λ e. omega (arith, e),
      (
        λ e. omega (arith, e),
        (λ e. omega (arith, e), (λ e. omega (arith, e), tt)),
      ),
    ),
  ),
)
either false x h = (h refl, tt)

pub unmarked : (text : List ℕ) → HasNoMarkup (safe text)
unmarked [] = tt
unmarked (x ∷ text) =
    joined (safe_byte x) (safe text) (either (x == 60) x (λ no e. let yes : (x == 60) ≡ true = rw e refl in cc (no, yes))) (unmarked text)
