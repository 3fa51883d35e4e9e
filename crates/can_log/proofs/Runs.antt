-- The text of runs, one tick on.
use Rattle.std.proofs.Common.{ℕ, ◌≡◌, ◌<◌, ◌≤◌, ◌+◌, ◌-◌, ◌++◌, true, false, List, ◌∷◌, length, drop, refl, sym, ap, ◌∙◌, arith, append_assoc, slice_get, get_or, Some}
use Rattle.std.proofs.lemmas.List.{drop_more}
use Rattle.std.proofs.Math.ListN.{drop_of_length-le}
use Rattle.std.proofs.lemmas.Option.{get_or_from_slice_get}
use Rattle.lift_model.specs.Records.{WireWords, InputData}
use Rattle.can_log.specs.RunsText.{ticks_part, is_quiet, lines_text, runs_text}

here : (is : List InputData) (i : ℕ) (x : InputData) → i < length is → Some x ≡ slice_get is (i + 1 - 1) → drop i is ≡ x ∷ drop (i + 1) is
here is i x lt got =
    let same : i + 1 - 1 ≡ i = omega arith in
    let found : get_or is i x ≡ x = get_or_from_slice_get is i x x (rw same at (sym got)) in
    drop_more is i x lt ∙ ap (λ (y : InputData). y ∷ drop (i + 1) is) found

pub quiet_more : (before : WireWords) (n : ℕ) (is : List InputData) (i : ℕ) (x : InputData) → i < length is
    → Some x ≡ slice_get is (i + 1 - 1) → is_quiet before x ≡ true
    → runs_text before n (drop i is) ≡ runs_text before (n + 1) (drop (i + 1) is)
quiet_more before n is i x lt got quiet = ap (runs_text before n) (here is i x lt got) ∙ rw quiet refl

pub other_more : (before : WireWords) (n : ℕ) (is : List InputData) (i : ℕ) (x : InputData) → i < length is
    → Some x ≡ slice_get is (i + 1 - 1) → is_quiet before x ≡ false
    → runs_text before n (drop i is) ≡ (ticks_part n ++ lines_text before x) ++ runs_text x.words 1 (drop (i + 1) is)
other_more before n is i x lt got other =
    ap (runs_text before n) (here is i x lt got)
    ∙ rw other (sym (append_assoc (ticks_part n) (lines_text before x) (runs_text x.words 1 (drop (i + 1) is))))

pub runs_end : (before : WireWords) (n : ℕ) (is : List InputData) (i : ℕ) → length is ≤ i → runs_text before n (drop i is) ≡ ticks_part n
runs_end before n is i past = ap (runs_text before n) (drop_of_length-le is past)
