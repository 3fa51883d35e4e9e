-- A text that is cut at its line feeds, one after the other, is cut into its lines.
use Rattle.std.proofs.Common.{ℕ, ◌≡◌, ◌<◌, ◌≤◌, ◌+◌, ◌==◌, Bool, true, false, nat_lt, List, [], ◌∷◌, length, take, drop, refl, ◌∙◌, arith, Option, Some, None, length-drop}
use Rattle.std.specs.Prelude.{not, cond, option_map}
use Rattle.std.specs.List.{position_or_len, slice_split}
use Rattle.std.proofs.lemmas.List.Splits.{slice_split_first, slice_split-cons_no}
use Rattle.std.proofs.lemmas.Grind.{common_steps}
use Rattle.can_log.specs.Lines.{cut}

abbrev pub is_feed : ℕ → Bool
is_feed b = b == 10

none_by : (p : ℕ → Bool) (x : ℕ) (xs : List ℕ) (test : Bool) → p x ≡ test → length xs + 1 ≤ cond (not test) (1 + position_or_len p xs) 0
    → (length xs ≤ position_or_len p xs → slice_split p xs ≡ xs ∷ []) → slice_split p (x ∷ xs) ≡ (x ∷ xs) ∷ []
none_by p x xs true is few rest = absurd (omega (arith, few))
none_by p x xs false is few rest = slice_split-cons_no p x xs is ∙ rw (rest (omega (arith, few))) refl

none_passes : (p : ℕ → Bool) (xs : List ℕ) → length xs ≤ position_or_len p xs → slice_split p xs ≡ xs ∷ []
none_passes p [] few = refl
none_passes p (x ∷ xs) few = none_by p x xs (p x) refl (omega (arith, few)) (none_passes p xs)

-- what a cut says of the lines
abbrev pub Splits : List ℕ → Option (List ℕ × List ℕ) → Type 0
Splits text None = slice_split is_feed text ≡ text ∷ []
Splits text (Some parts) = (slice_split is_feed text ≡ parts.0 ∷ slice_split is_feed parts.1) × (length parts.1 + 1 ≤ length text)

pub cut_splits : (text : List ℕ) → Splits text (cut 10 text)
cut_splits text = by (nat_lt (position_or_len is_feed text) (length text)) refl
  where
    i : ℕ
    i = position_or_len is_feed text

    by : (test : Bool) → nat_lt i (length text) ≡ test
        → Splits text (option_map (λ (k : ℕ). (take k text, drop (k + 1) text)) (cond test (Some i) None))
    by true is =
        let inside : i < length text = grind (arith, common_steps) in
        (slice_split_first is_feed text 0 inside, omega (arith, length-drop (i + 1) text))
    by false is =
        let past : length text ≤ i = grind (arith, common_steps) in
        none_passes is_feed text past
