-- Contents that agree outside a slot are clean with the same entries, and with one more where the slot is written.
use Rattle.std.proofs.Common.{ℕ, ◌≡◌, ◌+◌, ◌*◌, ◌≤◌, ◌<◌, ◌⊎◌, inl, inr, List, [], ◌∷◌, ◌++◌, length, Some, sym, ◌∙◌, ap, subst, arith, length-append}
use Rattle.std.proofs.lemmas.Bool.{cases_eq}
use Rattle.std.proofs.lemmas.List.{get_or_push, get_or_append_left}
use Rattle.std.proofs.lemmas.Option.{slice_get-get_or, get_or_from_slice_get}
use Rattle.script_model.specs.Changes.{ChangeData}
use Rattle.record_disk.specs.Disk.{Content, Same, SameBut}
use Rattle.record_disk.specs.declared.sizes.TheConstants.{DISK_BYTES}
use Rattle.record_store.specs.Record.{IsClean}
use Rattle.record_store.specs.Slot.{slot, change_in, head_of, IsGood, IsUp}
use Rattle.record_store.specs.Store.{IsTimely}
use Rattle.record_store.specs.Writing.{IsPartWritten, IsWritten}
use Rattle.record_store.specs.declared.slot.TheConstants.{GATE, SLOTS}
use Rattle.record_store.proofs.Slots.{slot_same, holds}

-- the slots below one are the same
below : (c d : Content) (n i : ℕ) → n ≤ SLOTS → i < n → ((k : ℕ) → k < DISK_BYTES → k < 16 * n → d k ≡ c k) → slot d i ≡ slot c i
below c d n i room lt same = slot_same c d i (λ k small. same (16 * i + k) (omega arith) (omega arith))

module _ (c d : Content) (entries : List ChangeData) (clean : IsClean c entries) where
  abbrev n : ℕ
  n = length entries

  -- clean as before, where the first slots are the same and no gate went up
  still : ((k : ℕ) → k < DISK_BYTES → k < 16 * n → d k ≡ c k) → ((i : ℕ) → n ≤ i → i < SLOTS → IsUp d i → ⊥) → IsClean d entries
  still same shut = record {
    room = clean.room;
    good = λ i lt. subst (λ (s : List ℕ). IsGood s i) (sym (below c d n i clean.room lt same)) (clean.good i lt);
    hold = λ i lt. clean.hold i lt ∙ ap (λ (s : List ℕ). Some (change_in s)) (sym (below c d n i clean.room lt same));
    shut = shut;
  }

  pub clean_same : Same d c → IsClean d entries
  clean_same same = still (λ k lt _. same k lt) (λ i le lt up. clean.shut i le lt (sym (same (16 * i + 15) (omega arith)) ∙ up))

  pub clean_head : SameBut (16 * n) 15 d c → IsClean d entries
  clean_head but = still (λ k lt under. but k lt (inl under))
      (λ i le lt up. clean.shut i le lt (sym (but (16 * i + 15) (omega arith) (inr (omega arith))) ∙ up))

  pub clean_shut : SameBut (16 * n) 16 d c → (IsUp d n → ⊥) → IsClean d entries
  clean_shut but not_up = still (λ k lt under. but k lt (inl under)) others
    where
      others : (i : ℕ) → n ≤ i → i < SLOTS → IsUp d i → ⊥
      others i le lt up = elim (cases_eq i n) [
        | inl is ↦ not_up (subst (IsUp d) is up)
        | inr other ↦ clean.shut i le lt (sym (but (16 * i + 15) (omega arith) (inr (omega arith))) ∙ up)
      ]

  module _ (x : ChangeData) (place : n < SLOTS) (timely : IsTimely x) where
    pub clean_more : IsWritten c n (head_of x n) d → IsClean d (entries ++ x ∷ [])
    clean_more w =
        let more = entries ++ x ∷ [] in
        let long : length more ≡ n + 1 = length-append entries (x ∷ []) in
        let new = holds d x n place timely w.bytes w.gate in
        let first : (k : ℕ) → k < DISK_BYTES → k < 16 * n → d k ≡ c k = λ k small under. w.others k small (inl under) in
        let same : (i : ℕ) → i < n → slot d i ≡ slot c i = λ i lt. below c d n i clean.room lt first in
        record {
          room = omega arith;
          good = λ i lt. elim (cases_eq i n) [
            | inl is ↦ subst (λ (k : ℕ). IsGood (slot d k) k) (sym is) new.good
            | inr other ↦ subst (λ (s : List ℕ). IsGood s i) (sym (same i (omega arith))) (clean.good i (omega arith))
          ];
          hold = λ i lt. slice_get-get_or more i x lt ∙ ap Some (elim (cases_eq i n) [
            | inl is ↦ get_or_push entries x x i (sym is) ∙ sym new.change ∙ ap (λ (k : ℕ). change_in (slot d k)) (sym is)
            | inr other ↦ get_or_append_left entries (x ∷ []) x i (omega arith)
                ∙ get_or_from_slice_get entries i _ x (clean.hold i (omega arith)) ∙ ap change_in (sym (same i (omega arith)))
          ]);
          shut = λ i le lt up. clean.shut i (omega arith) lt (sym (w.others (16 * i + 15) (omega arith) (inr (omega arith))) ∙ up);
        }

    -- what a crash leaves of an append
    pub clean_part : IsPartWritten c n (head_of x n) d → IsClean d entries ⊎ IsClean d (entries ++ x ∷ [])
    clean_part (inl head) = inl (clean_head head)
    clean_part (inr (but, at)) = elim (cases_eq (d (16 * n + 15)) GATE) [
      | inl up ↦ inr (clean_more (record { others = but; bytes = at; gate = up }))
      | inr down ↦ inl (clean_shut but down)
    ]

not_fewer : (c : Content) (e f : List ChangeData) → IsClean c e → IsClean c f → length e < length f → ⊥
not_fewer c e f one two lt = one.shut (length e) (omega arith) (omega (arith, two.room)) (two.good (length e) lt).gate

-- a content is clean with one count of entries
pub clean_len : (c : Content) (e f : List ChangeData) → IsClean c e → IsClean c f → length e ≡ length f
clean_len c e f one two =
    let a : length e < length f → ⊥ = not_fewer c e f one two in
    let b : length f < length e → ⊥ = not_fewer c f e two one in
    elim (cases_eq (length e) (length f)) [ inl is ↦ is | inr other ↦ grind (arith, a, b) ]
