-- The digits, by their table.
use Rattle.std.proofs.Common.{◌≡◌, ◌<◌, ◌≤◌, ◌+◌, ◌*◌, ◌⊎◌, ◌∙◌, ◌==◌, ◌&&◌, inl, inr, option_and_then, List, [], ◌∷◌, ℕ, zero, suc, Bool, length, get_or, refl, ap, subst, arith, true, nat_lt, nat_le, Option, None, Some}
use Rattle.std.proofs.lemmas.Bool.{cases_lt}
use Rattle.std.proofs.lemmas.Bool.Decides.{nat_tests}
use Rattle.can_frame.specs.Spelling.{hex_digit, byte_of}
use Rattle.can_frame.specs.declared.digits.TheConstants.{DIGITS}

-- an entry says what its byte is
abbrev agrees : ℕ → Option ℕ → Bool
agrees x None = x == 255
agrees x (Some d) = (x == d) && nat_lt d 16

abbrev all_agree : ℕ → List ℕ → Bool
all_agree i [] = true
all_agree i (x ∷ xs) = agrees x (hex_digit i) && all_agree (i + 1) xs

table_agrees : all_agree 0 DIGITS ≡ true
table_agrees = refl

both : (a b : Bool) → (a && b) ≡ true → (a ≡ true) × (b ≡ true)
both a b h = (grind (arith, nat_tests), grind (arith, nat_tests))

entry_agrees : (i : ℕ) (xs : List ℕ) (k : ℕ) → all_agree i xs ≡ true → k < length xs
    → agrees (get_or xs k 0) (hex_digit (i + k)) ≡ true
entry_agrees i [] k all lt = absurd (omega arith)
entry_agrees i (x ∷ xs) zero all lt =
    let here : i ≡ i + 0 = omega arith in
    subst (λ (n : ℕ). agrees x (hex_digit n) ≡ true) here (both _ _ all).0
entry_agrees i (x ∷ xs) (suc k) all lt =
    let there : i + 1 + k ≡ i + suc k = omega arith in
    subst (λ (n : ℕ). agrees (get_or xs k 0) (hex_digit n) ≡ true) there (entry_agrees (i + 1) xs k (both _ _ all).1 (omega arith))

digit_agrees : (b : ℕ) → b < 256 → agrees (get_or DIGITS b 0) (hex_digit b) ≡ true
digit_agrees b lt =
    let same : 0 + b ≡ b = omega arith in
    subst (λ (n : ℕ). agrees (get_or DIGITS b 0) (hex_digit n) ≡ true) same (entry_agrees 0 DIGITS b table_agrees lt)

read : (x : ℕ) (o : Option ℕ) → agrees x o ≡ true → x < 16 → Some x ≡ o
read x None h small = absurd (grind (arith, nat_tests))
read x (Some d) h small = let e : x ≡ d = grind (arith, nat_tests) in ap Some e

refused : (x : ℕ) (o : Option ℕ) → agrees x o ≡ true → 16 ≤ x → None ≡ o
refused x None h big = refl
refused x (Some d) h big = absurd (grind (arith, nat_tests))

far : (x : ℕ) (o : Option ℕ) → agrees x o ≡ true → x < 32 → x < 16
far x None h less = absurd (grind (arith, nat_tests))
far x (Some d) h less = grind (arith, nat_tests)

pub digit_read : (b : ℕ) → b < 256 → get_or DIGITS b 0 < 16 → Some (get_or DIGITS b 0) ≡ hex_digit b
digit_read b lt small = read _ _ (digit_agrees b lt) small

pub digit_refused : (b : ℕ) → b < 256 → 16 ≤ get_or DIGITS b 0 → None ≡ hex_digit b
digit_refused b lt big = refused _ _ (digit_agrees b lt) big

-- a value below 32 is that of a digit
pub digit_is_small : (b : ℕ) → b < 256 → get_or DIGITS b 0 < 32 → get_or DIGITS b 0 < 16
digit_is_small b lt less = far _ _ (digit_agrees b lt) less

both_read : (o p : Option ℕ) (a b : ℕ) → Some a ≡ o → Some b ≡ p
    → Some (16 * a + b) ≡ option_and_then (λ x1. option_and_then (λ x0. Some (16 * x1 + x0)) p) o
both_read o p a b e f = rw (← e, ← f) refl

none_read : (o p : Option ℕ) → (None ≡ o) ⊎ (None ≡ p) → None ≡ option_and_then (λ x1. option_and_then (λ x0. Some (16 * x1 + x0)) p) o
none_read o p (inl e) = rw (← e) refl
none_read None p (inr e) = refl
none_read (Some a) p (inr e) = rw (← e) refl

pub pair_read : (x y a b : ℕ) → x < 256 → y < 256 → a ≡ get_or DIGITS x 0 → b ≡ get_or DIGITS y 0 → a + b < 32
    → Some (16 * a + b) ≡ byte_of x y
pair_read x y a b xs ys is is' less =
    let high = digit_is_small x xs (omega (arith, is)) in
    let low = digit_is_small y ys (omega (arith, is')) in
    both_read _ _ a b (ap (λ (n : ℕ). Some n) is ∙ digit_read x xs high) (ap (λ (n : ℕ). Some n) is' ∙ digit_read y ys low)

pub pair_refused : (x y a b : ℕ) → x < 256 → y < 256 → a ≡ get_or DIGITS x 0 → b ≡ get_or DIGITS y 0 → 32 ≤ a + b → None ≡ byte_of x y
pair_refused x y a b xs ys is is' many = elim (cases_lt a 16) [
  | inl small ↦ none_read (hex_digit x) (hex_digit y) (inr (digit_refused y ys (omega (arith, is', small, many))))
  | inr big ↦ none_read (hex_digit x) (hex_digit y) (inl (digit_refused x xs (omega (arith, is, big))))
]

-- so the byte fits
pub pair_fits : (x y a b : ℕ) → x < 256 → y < 256 → a ≡ get_or DIGITS x 0 → b ≡ get_or DIGITS y 0 → a + b < 32 → 16 * a + b < 256
pair_fits x y a b xs ys is is' less =
    let high = digit_is_small x xs (omega (arith, is)) in
    let low = digit_is_small y ys (omega (arith, is')) in
    omega (arith, is, is', high, low)
