-- Whole lines of a text, and a line that is begun.
use Rattle.std.proofs.Common.{◌≡◌, ◌<◌, ◌≤◌, ◌+◌, ◌-◌, ◌++◌, ◌==◌, List, [], ◌∷◌, ℕ, zero, suc, Bool, length, take, drop, slice_index, refl, sym, ap, ◌∙◌, arith, rules, true, false, nat_lt, inl, inr, append_assoc, append-nil, length-append}
use Rattle.std.proofs.lemmas.Bool.{eqb-true, cases_lt}
use Rattle.std.proofs.lemmas.List.{drop_more, take-append-drop}
use Rattle.lift_base.specs.declared.limits.TheConstants.{LONGEST_LINE}
use Rattle.script_model.specs.declared.refusals.LineRefusal.TheVariants.{LineTooLong}
use Rattle.script_model.specs.Judging.{Place, judge_line}
use Rattle.script_model.specs.Meaning.{NoFeed, Reading, InLine, Stopped, take_byte, take_bytes, line_ends}
use Rattle.script_model.specs.declared.refusals.Refusal.TheVariants.{Line}
use Rattle.script_model.proofs.Bytes.{take_line}
use Rattle.script_model.proofs.Counting.{stopped_on}

not_true : (x : Bool) → (x ≡ true → ⊥) → x ≡ false
not_true true h = absurd (h refl)
not_true false h = refl

-- the front before the first line feed has none
pub no_feed_before : (bytes : List ℕ) (n : ℕ) → ((k : ℕ) → 0 ≤ k → k < n → ¬ ((slice_index bytes k == 10) ≡ true)) → NoFeed (take n bytes)
no_feed_before bytes zero none = tt
no_feed_before [] (suc n) none = tt
no_feed_before (b ∷ bytes) (suc n) none =
    let others = no_feed_before bytes n (λ k a lt h. none (suc k) (omega arith) (omega arith) h) in
    (not_true (b == 10) (none 0 (omega arith) (omega arith)), others)

-- at a line feed
pub split_at : (bytes : List ℕ) (n : ℕ) → n < length bytes → (slice_index bytes n == 10) ≡ true
    → bytes ≡ (take n bytes ++ 10 ∷ []) ++ drop (n + 1) bytes
split_at bytes n lt feed =
    let is : slice_index bytes n ≡ 10 = eqb-true (slice_index bytes n) 10 feed in
    sym (take-append-drop n bytes)
    ∙ ap (λ (x : List ℕ). take n bytes ++ x) (drop_more bytes n 0 lt)
    ∙ ap (λ (x : ℕ). take n bytes ++ x ∷ drop (n + 1) bytes) is
    ∙ sym (append_assoc (take n bytes) (10 ∷ []) (drop (n + 1) bytes))

grows : (p : Place) (n used : ℕ) (line : List ℕ) (b : ℕ) → (b == 10) ≡ false → length line < LONGEST_LINE
    → take_byte (InLine p n used line) b ≡ InLine p n (used + 1) (line ++ b ∷ [])
grows p n used line b none few = let room : nat_lt (length line) LONGEST_LINE ≡ true = search rules in rw (none, room) refl

full : (p : Place) (n used : ℕ) (line : List ℕ) (b : ℕ) → (b == 10) ≡ false → LONGEST_LINE ≤ length line
    → take_byte (InLine p n used line) b ≡ Stopped (Line n LineTooLong) (used + 1)
full p n used line b none most = let room : nat_lt (length line) LONGEST_LINE ≡ false = search rules in rw (none, room) refl

-- the 201st byte
pub long_line : (p : Place) (n used : ℕ) (line bytes rest : List ℕ) → NoFeed bytes → length line ≤ LONGEST_LINE
    → LONGEST_LINE < length line + length bytes
    → take_bytes (InLine p n used line) (bytes ++ rest) ≡ Stopped (Line n LineTooLong) (used + (LONGEST_LINE + 1 - length line))
long_line p n used line [] rest none few long = absurd (omega arith)
long_line p n used line (b ∷ bytes) rest none few long =
    elim (cases_lt (length line) LONGEST_LINE) [
      | inr most ↦
          let count : used + 1 ≡ used + (LONGEST_LINE + 1 - length line) = omega arith in
          ap (λ (r : Reading). take_bytes r (bytes ++ rest)) (full p n used line b none.0 most)
          ∙ stopped_on (Line n LineTooLong) (used + 1) (bytes ++ rest) ∙ ap (Stopped (Line n LineTooLong)) count
      | inl room ↦
          let grown : length (line ++ b ∷ []) ≡ length line + 1 = simp length-append in
          let count : used + 1 + (LONGEST_LINE + 1 - length (line ++ b ∷ [])) ≡ used + (LONGEST_LINE + 1 - length line) = omega arith in
          ap (λ (r : Reading). take_bytes r (bytes ++ rest)) (grows p n used line b none.0 room)
          ∙ long_line p n (used + 1) (line ++ b ∷ []) bytes rest none.1 (omega arith) (omega arith)
          ∙ ap (Stopped (Line n LineTooLong)) count
    ]

-- the bytes of a line that are left, and its line feed
pub line_whole : (p : Place) (n used : ℕ) (line bytes : List ℕ) → NoFeed bytes → length line + length bytes ≤ LONGEST_LINE
    → take_bytes (InLine p n used line) (bytes ++ 10 ∷ []) ≡ line_ends p (judge_line p n (line ++ bytes)) n (used + (length bytes + 1))
line_whole p n used line bytes none few =
    let count : used + length bytes + 1 ≡ used + (length bytes + 1) = omega arith in
    take_line p n used line bytes (10 ∷ []) none few ∙ ap (λ (u : ℕ). line_ends p (judge_line p n (line ++ bytes)) n u) count

-- a line is begun
pub line_begun : (p : Place) (n used : ℕ) (line bytes : List ℕ) → NoFeed bytes → length line + length bytes ≤ LONGEST_LINE
    → take_bytes (InLine p n used line) bytes ≡ InLine p n (used + length bytes) (line ++ bytes)
line_begun p n used line bytes none few =
    ap (take_bytes (InLine p n used line)) (sym (append-nil bytes)) ∙ take_line p n used line bytes [] none few

pub nil_of_length : (xs : List ℕ) → length xs ≡ 0 → xs ≡ []
nil_of_length [] h = refl
nil_of_length (x ∷ xs) h = absurd (omega arith)
