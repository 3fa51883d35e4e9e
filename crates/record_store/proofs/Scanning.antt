-- What is known of a record's first slots.
use Rattle.std.proofs.Common.{ℕ, zero, suc, ◌≡◌, ◌≢◌, ◌+◌, ◌*◌, ◌≤◌, ◌<◌, ◌⊎◌, inl, inr, List, [], ◌∷◌, length, get_or, Some, refl, sym, ◌∙◌, ap, subst, arith}
use Rattle.std.proofs.lemmas.Bool.{cases_eq, cases_lt}
use Rattle.std.proofs.lemmas.Option.{slice_get-get_or}
use Rattle.script_model.specs.Changes.{ChangeData}
use Rattle.record_disk.specs.Disk.{Content, Same}
use Rattle.record_store.specs.Record.{IsCleanWith, IsForeign, IsStray, IsUnclean}
use Rattle.record_store.specs.Slot.{slot, gate_in, change_in, IsGood, IsUp}
use Rattle.record_store.specs.declared.slot.TheConstants.{GATE, SLOTS}
use Rattle.record_store.proofs.Slots.{slot_same}

-- of the first i slots so many are good, and no later one of them is up
pub record Scanned (c : Content) (i n : ℕ) : Type 0 where
  pub within : n ≤ i
  pub good : (k : ℕ) → k < n → IsGood (slot c k) k
  pub shut : (k : ℕ) → n ≤ k → k < i → IsUp c k → ⊥

pub none_scanned : (c : Content) → Scanned c 0 0
none_scanned c = record { within = omega arith; good = λ k lt. absurd (omega arith); shut = λ k le lt. absurd (omega arith) }

-- a slot is not good, or comes after one whose gate is not up
abbrev IsWrong : Content → ℕ → Type 0
IsWrong c i = (IsGood (slot c i) i → ⊥) ⊎ ((k : ℕ) × (k < i) × (IsUp c k → ⊥))

-- the next slot
module _ (c : Content) (i n : ℕ) (s : List ℕ) (so : Scanned c i n) (is : s ≡ slot c i) where
  pub up_scanned : i ≤ n → IsGood s i → Scanned c (i + 1) (n + 1)
  up_scanned le is_good = record {
    within = omega (arith, so.within);
    good = λ k lt. elim (cases_eq k i) [
      | inl here ↦ subst (λ (j : ℕ). IsGood (slot c j) j) (sym here) (subst (λ (x : List ℕ). IsGood x i) is is_good)
      | inr other ↦ so.good k (omega (arith, so.within))
    ];
    shut = λ k above lt. absurd (omega (arith, so.within));
  }

  pub down_scanned : gate_in s ≢ GATE → Scanned c (i + 1) n
  down_scanned down = record {
    within = omega (arith, so.within);
    good = so.good;
    shut = λ k above lt up. elim (cases_eq k i) [
      | inl here ↦ down (ap gate_in is ∙ subst (IsUp c) here up)
      | inr other ↦ so.shut k above (omega arith) up
    ];
  }

  before : (k : ℕ) → k < n → IsWrong c k → ⊥
  before k lt (inl bad) = bad (so.good k lt)
  before k lt (inr gap) = gap.2 (so.good gap.0 (omega (arith, gap.1))).gate

  wrong : (n < i) ⊎ (IsGood s i → ⊥) → IsWrong c i
  wrong (inl after) = inr (n, after, so.shut n (omega arith) after)
  wrong (inr bad) = inl (λ is_good. bad (subst (λ (x : List ℕ). IsGood x i) (sym is) is_good))

  pub foreign : i < SLOTS → gate_in s ≡ GATE → (n < i) ⊎ (IsGood s i → ⊥) → IsForeign c i
  foreign place up why = record {
    place = place;
    stray = (sym (ap gate_in is) ∙ up, wrong why);
    first = λ k lt stray. elim (cases_lt k n) [
      | inl front ↦ before k front stray.1
      | inr after ↦ so.shut k after lt stray.0
    ];
  }

-- ---- all slots

-- the changes of so many slots, from slot k on
abbrev changes : Content → ℕ → ℕ → List ChangeData
changes c k zero = []
changes c k (suc n) = change_in (slot c k) ∷ changes c (suc k) n

changes_long : (c : Content) (k n : ℕ) → length (changes c k n) ≡ n
changes_long c k zero = refl
changes_long c k (suc n) = ap suc (changes_long c (suc k) n)

changes_at : (c : Content) (k n i : ℕ) (d : ChangeData) → i < n → get_or (changes c k n) i d ≡ change_in (slot c (k + i))
changes_at c k zero i d lt = absurd (omega arith)
changes_at c k (suc n) zero d lt = let e : k ≡ k + 0 = omega arith in ap (λ (j : ℕ). change_in (slot c j)) e
changes_at c k (suc n) (suc i) d lt =
    let e : suc k + i ≡ k + suc i = omega arith in
    changes_at c (suc k) n i d (omega arith) ∙ ap (λ (j : ℕ). change_in (slot c j)) e

pub all_scanned : (c : Content) (n : ℕ) → Scanned c SLOTS n → IsCleanWith c n
all_scanned c n so =
    let long = changes_long c 0 n in
    let some : ChangeData = change_in (slot c 0) in (
      changes c 0 n,
      record {
        room = omega (arith, so.within);
        good = λ i lt. so.good i (omega arith);
        hold = λ i lt.
            let e : 0 + i ≡ i = omega arith in
            slice_get-get_or (changes c 0 n) i some lt
            ∙ ap Some (changes_at c 0 n i some (omega arith) ∙ ap (λ (j : ℕ). change_in (slot c j)) e);
        shut = λ i le lt. so.shut i (omega arith) lt;
      },
      long,
    )

-- ---- contents that are the same

module _ (c d : Content) (same : Same d c) (back : Same c d) where
  slots : (i : ℕ) → i < SLOTS → slot d i ≡ slot c i
  slots i place = slot_same c d i (λ k small. same (16 * i + k) (omega arith))

  still_wrong : (i : ℕ) → i < SLOTS → IsWrong c i → IsWrong d i
  still_wrong i place (inl bad) = inl (λ good. bad (subst (λ (x : List ℕ). IsGood x i) (slots i place) good))
  still_wrong i place (inr gap) = inr (gap.0, gap.1, λ up. gap.2 (back (16 * gap.0 + 15) (omega (arith, gap.1)) ∙ up))

  stray_same : (i : ℕ) → i < SLOTS → IsStray c i → IsStray d i
  stray_same i place (up, why) = (same (16 * i + 15) (omega arith) ∙ up, still_wrong i place why)

pub foreign_same : (c d : Content) (i : ℕ) → Same d c → Same c d → IsForeign c i → IsForeign d i
foreign_same c d i same back f = record {
  place = f.place;
  stray = stray_same c d same back i f.place f.stray;
  first = λ k lt stray. f.first k lt (stray_same d c back same k (omega (arith, f.place)) stray);
}

-- with a stray slot a content is not clean
pub not_clean : (c : Content) (i : ℕ) → IsForeign c i → IsUnclean c
not_clean c i f entries clean = elim (cases_lt i (length entries)) [
  | inl front ↦ before_end f.stray.1 front
  | inr after ↦ clean.shut i after f.place f.stray.0
]
  where
    before_end : IsWrong c i → i < length entries → ⊥
    before_end (inl bad) lt = bad (clean.good i lt)
    before_end (inr gap) lt = gap.2 (clean.good gap.0 (omega (arith, gap.1))).gate
