-- What a tick does to what a `Wires` stands for.
use Rattle.std.proofs.Common.{◌≡◌, ℕ, suc, ◌+◌, ◌-◌, ◌<◌, ◌≤◌, List, [], ◌∷◌, ◌++◌, length, get_or, Bool, sym, ap, ◌∙◌, arith, subst, min, cond}
use Rattle.std.specs.Prelude.{◌==◌, ◌&&◌, ◌||◌, not}
use Rattle.std.proofs.lemmas.List.{length_push}
use Rattle.lift_model.specs.Records.{WireWords}
use Rattle.lift_model.specs.Bits.{some_below}
use Rattle.lift_model.specs.Wires.{words_at, is_discrepant, is_made, ends_discrepant_row}
use Rattle.lift_model.proofs.BitLemmas.{some_below-same}
use Rattle.lift_model.proofs.TickLemmas.{Counts-next, Counts-same, Counts-full}
use Rattle.lift_model.specs.Ticks.{Counts}
use Rattle.lift_model.proofs.WireLemmas.{words_at-old, words_at-new, contact_fault-push}
use Rattle.contact_input.specs.Rows.{next_row}
use Rattle.contact_input.specs.StandsFor.{StandsFor}
use Rattle.contact_input.specs.declared.wires.Wires.{Wires}
use Rattle.lift_base.specs.declared.wires.TheConstants.{WIRES, RESET}

length_push' : (ticks : List WireWords) (w : WireWords) → length (ticks ++ w ∷ []) ≡ suc (length ticks)
length_push' ticks w = omega (arith, length_push ticks w)

module _ (old : Wires) (disc : ℕ) (ticks : List WireWords) (stands : StandsFor old disc ticks) (words : WireWords) where
  row_later : (i : ℕ) → i < WIRES → Counts disc (λ t. is_discrepant (words_at (ticks ++ words ∷ []) t) i) (suc (length ticks))
      (next_row disc words old.rows i)
  row_later i h =
      let same = Counts-same disc (λ t. is_discrepant (words_at ticks t) i) (λ t. is_discrepant (words_at (ticks ++ words ∷ []) t) i)
      (length ticks) (get_or old.rows i 0) (λ t a b. ap (λ x. is_discrepant x i) (sym (words_at-old ticks words t b)))
      (stands.rows i h) in
      let next = Counts-next disc (λ t. is_discrepant (words_at (ticks ++ words ∷ []) t) i) (length ticks) (get_or old.rows i 0) same in
      subst (λ (w : WireWords). Counts disc (λ t. is_discrepant (words_at (ticks ++ words ∷ []) t) i) (suc (length ticks))
      (cond (is_discrepant w i) (min (get_or old.rows i 0 + 1) disc) 0)) (words_at-new ticks words) next

  ends_now : ends_discrepant_row disc (ticks ++ words ∷ []) (suc (length ticks)) ≡ some_below WIRES
      (λ i. next_row disc words old.rows i == disc)
  ends_now = some_below-same WIRES _ _ (λ i h. Counts-full disc _ _ _ (row_later i h))

  before_new : length (ticks ++ words ∷ []) - 1 ≡ length ticks
  before_new = omega (arith, length_push ticks words)

  pub StandsFor-push : (rows : List ℕ) (fault : Bool) (some : 1 ≤ old.disc)
      → ((i : ℕ) → i < WIRES → get_or rows i 0 ≡ next_row old.disc words old.rows i)
      → fault ≡ (some_below WIRES (λ i. next_row old.disc words old.rows i == old.disc)
      || (old.fault && not (is_made words RESET && not (is_made old.words RESET))))
      → StandsFor (record { disc = old.disc; words = words; before = old.words; rows = rows; fault = fault; some = some }) disc
      (ticks ++ words ∷ [])
  StandsFor-push rows fault some at f = record {
    same_disc = stands.same_disc;
    words = rw (length_push' ticks words) (sym (words_at-new ticks words));
    before = rw (before_new) (stands.words ∙ sym (words_at-old ticks words (length ticks) (omega arith)));
    rows = λ i h. rw (length_push' ticks words) (subst (λ (c : ℕ). Counts disc (λ t. is_discrepant (words_at (ticks ++ words ∷ []) t) i)
        (suc (length ticks)) c) (sym (at i h ∙ ap (λ (d : ℕ). next_row d words old.rows i) stands.same_disc)) (row_later i h));
    fault = rw (length_push' ticks words)
        (f ∙ (rw (stands.same_disc, ← ends_now, stands.fault, stands.words) (sym (contact_fault-push disc ticks words))));
  }
