-- Laws of sets that are kept as words.
use Rattle.std.proofs.Common.{◌≡◌, ℕ, ◌<◌, Bool, true, false, refl, arith, ◌∙◌, below_more, cond}
use Rattle.std.specs.Prelude.{◌&&◌, ◌||◌, bit_or}
use Rattle.lift_model.specs.Bits.{has}
use Rattle.lift_model.proofs.BitLemmas.{has_or}

pub and_true : (x : Bool) → (x && true) ≡ x
and_true true = refl
and_true false = refl

pub and_turned : (x y : Bool) → (x && y) ≡ (y && x)
and_turned true true = refl
and_turned true false = refl
and_turned false true = refl
and_turned false false = refl

-- a member more, where it is asked for
pub has_more : (set more i : ℕ) (asked : Bool) → asked ≡ true → has (bit_or set more) i ≡ cond (has more i) (has set i || asked) (has set i)
has_more set more i asked e = has_or set more i ∙ (rw e (turned (has set i) (has more i))) where
  turned : (x y : Bool) → (x || y) ≡ cond y (x || true) x
  turned true true = refl
  turned true false = refl
  turned false true = refl
  turned false false = refl

pub has_same : (set more i : ℕ) (asked : Bool) → asked ≡ false → has set i ≡ cond (has more i) (has set i || asked) (has set i)
has_same set more i asked e = rw e (same (has set i) (has more i)) where
  same : (x y : Bool) → x ≡ cond y (x || false) x
  same true true = refl
  same true false = refl
  same false true = refl
  same false false = refl

-- what holds of each number below twelve, or fifteen
pub below_twelve : (P : ℕ → Type 0) → P 0 → P 1 → P 2 → P 3 → P 4 → P 5 → P 6 → P 7 → P 8 → P 9 → P 10 → P 11 → (i : ℕ) → i < 12 → P i
below_twelve P a b c d e f g h j k l m =
    below_more P 11 (below_more P 10 (below_more P 9 (below_more P 8 (below_more P 7 (below_more P 6 (below_more P 5
    (below_more P 4 (below_more P 3 (below_more P 2 (below_more P 1 (below_more P 0
    (λ i n. absurd (omega arith)) a) b) c) d) e) f) g) h) j) k) l) m

pub below_fifteen : (P : ℕ → Type 0) → P 0 → P 1 → P 2 → P 3 → P 4 → P 5 → P 6 → P 7 → P 8 → P 9 → P 10 → P 11 → P 12 → P 13 → P 14
    → (i : ℕ) → i < 15 → P i
below_fifteen P a b c d e f g h j k l m n o p =
    below_more P 14 (below_more P 13 (below_more P 12 (below_twelve P a b c d e f g h j k l m) n) o) p
