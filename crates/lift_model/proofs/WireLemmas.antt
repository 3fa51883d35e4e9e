-- Laws of the wires.
use Rattle.std.proofs.Common.{◌≡◌, ℕ, zero, suc, ◌≤◌, refl, ap, arith, List, [], ◌∷◌, ◌++◌, length}
use Rattle.std.specs.Prelude.{◌||◌, ◌&&◌, not}
use Rattle.std.proofs.lemmas.List.{get_or_push, get_or_append_left}
use Rattle.lift_model.proofs.BitLemmas.{some_below-same}
use Rattle.lift_model.proofs.TickLemmas.{latched-suc, latched-same, row-same}
use Rattle.lift_model.specs.Records.{WireWords}
use Rattle.lift_model.specs.Ticks.{latched}
use Rattle.lift_model.specs.Wires.{all_off, words_at, is_made, is_discrepant, rises, ends_discrepant_row, has_contact_fault}
use Rattle.lift_base.specs.declared.wires.TheConstants.{WIRES, RESET}

-- the ticks so far keep their words
pub words_at-old : (ticks : List WireWords) (w : WireWords) (t : ℕ) → t ≤ length ticks → words_at (ticks ++ w ∷ []) t ≡ words_at ticks t
words_at-old ticks w zero h = refl
words_at-old ticks w (suc k) h = get_or_append_left ticks (w ∷ []) all_off k (omega arith)

pub words_at-new : (ticks : List WireWords) (w : WireWords) → words_at (ticks ++ w ∷ []) (suc (length ticks)) ≡ w
words_at-new ticks w = get_or_push ticks w all_off (length ticks) refl

pub rises-old : (ticks : List WireWords) (w : WireWords) (i t : ℕ) → t ≤ length ticks → rises (ticks ++ w ∷ []) i t ≡ rises ticks i t
rises-old ticks w i zero h = refl
rises-old ticks w i (suc k) h = rw (words_at-old ticks w (suc k) h, words_at-old ticks w k (omega arith)) refl

pub rises-new : (ticks : List WireWords) (w : WireWords) (i : ℕ)
    → rises (ticks ++ w ∷ []) i (suc (length ticks)) ≡ (is_made w i && not (is_made (words_at ticks (length ticks)) i))
rises-new ticks w i = rw (words_at-new ticks w, words_at-old ticks w (length ticks) (omega arith)) refl

pub ends_row-old : (disc : ℕ) (ticks : List WireWords) (w : WireWords) (t : ℕ) → t ≤ length ticks
    → ends_discrepant_row disc (ticks ++ w ∷ []) t ≡ ends_discrepant_row disc ticks t
ends_row-old disc ticks w t h =
    some_below-same WIRES _ _ (λ i l. row-same disc _ _ t (λ u a b. ap (λ x. is_discrepant x i) (words_at-old ticks w u (omega arith))))

-- a tick on
pub contact_fault-push : (disc : ℕ) (ticks : List WireWords) (w : WireWords) →
    has_contact_fault disc (ticks ++ w ∷ []) (suc (length ticks))
    ≡ (ends_discrepant_row disc (ticks ++ w ∷ []) (suc (length ticks)) || (has_contact_fault disc ticks (length ticks)
    && not (is_made w RESET && not (is_made (words_at ticks (length ticks)) RESET))))
contact_fault-push disc ticks w =
    let later = ticks ++ w ∷ [] in
    let same : latched (ends_discrepant_row disc later) (rises later RESET) (length ticks) ≡ latched (ends_discrepant_row disc ticks)
    (rises ticks RESET) (length ticks) =
    latched-same _ _ _ _ (length ticks) (λ t a b. ends_row-old disc ticks w t b) (λ t a b. rises-old ticks w RESET t b) in
    let now : rises later RESET (suc (length ticks))
    ≡ (is_made w RESET && not (is_made (words_at ticks (length ticks)) RESET)) = rises-new ticks w RESET in
    let step = latched-suc (ends_discrepant_row disc later) (rises later RESET) (length ticks) in
    cc
