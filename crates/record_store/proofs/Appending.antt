-- What an append leaves over a disk.
use Rattle.std.proofs.Common.{ℕ, ◌≡◌, ◌+◌, ◌<◌, ◌⊎◌, inl, List, [], ◌∷◌, ◌++◌, length, sym, ◌∙◌, subst, arith, length-append}
use Rattle.script_model.specs.Changes.{ChangeData}
use Rattle.record_disk.specs.Disk.{Content, State, Told, IfTold, BothTold, IsPresent}
use Rattle.record_disk.proofs.Moments.{starts, weaken, both_at, both_start, both_last, if_with}
use Rattle.record_store.specs.Record.{IsClean}
use Rattle.record_store.specs.Slot.{head_of}
use Rattle.record_store.specs.Store.{Stands, IsTimely, LeavesOneMore, KeepsAll}
use Rattle.record_store.specs.Writing.{IsPartWritten, IsWritten, LeavesPart, WritesSlot}
use Rattle.record_store.specs.declared.slot.TheConstants.{SLOTS}
use Rattle.record_store.proofs.Clean.{clean_same, clean_part, clean_more, clean_len}

pub counts : (n : ℕ) (s : State) → Stands n s → (entries : List ChangeData) → IsClean s.reads entries → length entries ≡ n
counts n s stands entries clean = clean_len s.reads entries stands.entries clean stands.clean ∙ stands.all

module _ (n : ℕ) (x : ChangeData) where
  abbrev OneMore : List ChangeData → Content → Type 0
  OneMore entries c = IsClean c entries ⊎ IsClean c (entries ++ x ∷ [])

  none : (s : State) → IsPresent s × Stands n s → LeavesOneMore x s s
  none s (present, stands) entries clean =
      starts s (OneMore entries) present (λ c now. inl (clean_same s.reads c entries clean (stands.durable c now)))

  pub none_yet : (a : Told) → IfTold a IsPresent → IfTold a (Stands n) → BothTold a a (LeavesOneMore x)
  none_yet a present stands =
      let Both : State → Type 0 = λ s. IsPresent s × Stands n s in
      both_start a (LeavesOneMore x) Both none (if_with a IsPresent (Stands n) Both (λ s p q. (p, q)) present stands)

  module _ (place : n < SLOTS) (timely : IsTimely x) where
    moments : (s t : State) → Stands n s → LeavesPart n (head_of x n) s t → LeavesOneMore x s t
    moments s t stands leaves entries clean =
        let is = counts n s stands entries clean in
        let under : length entries < SLOTS = omega arith in
        let Part : ℕ → Content → Type 0 = λ k c. IsPartWritten s.reads k (head_of x k) c in
        weaken s t (Part n) (OneMore entries)
        (λ c part. clean_part s.reads c entries clean x under timely (subst (λ (k : ℕ). Part k c) (sym is) part)) leaves

    done : (s t : State) → Stands n s → WritesSlot n (head_of x n) s t → KeepsAll (x ∷ []) s t
    done s t stands (written, durable) entries clean =
        let is = counts n s stands entries clean in
        let under : length entries < SLOTS = omega arith in
        let here = subst (λ (k : ℕ). IsWritten s.reads k (head_of x k) t.reads) (sym is) written in
        let after = clean_more s.reads t.reads entries clean x under timely here in
        (after, λ c now. clean_same t.reads c (entries ++ x ∷ []) after (durable c now))

    stands_more : (s t : State) → Stands n s → WritesSlot n (head_of x n) s t → Stands (n + 1) t
    stands_more s t stands w = record {
      entries = stands.entries ++ x ∷ [];
      clean = (done s t stands w stands.entries stands.clean).0;
      all = omega (arith, length-append stands.entries (x ∷ []), stands.all);
      durable = w.1;
    }

    pub all_moments : (a b : Told) → IfTold a (Stands n) → BothTold a b (LeavesPart n (head_of x n)) → BothTold a b (LeavesOneMore x)
    all_moments a b stands leaves = both_at a b (LeavesPart n (head_of x n)) (LeavesOneMore x) (Stands n) moments stands leaves

    pub all_done : (a b : Told) → IfTold a (Stands n) → BothTold a b (WritesSlot n (head_of x n)) → BothTold a b (KeepsAll (x ∷ []))
    all_done a b stands w = both_at a b (WritesSlot n (head_of x n)) (KeepsAll (x ∷ [])) (Stands n) done stands w

    pub still_stands : (a b : Told) → IfTold a (Stands n) → BothTold a b (WritesSlot n (head_of x n)) → IfTold b (Stands (n + 1))
    still_stands a b stands w =
        let After : State → State → Type 0 = λ s t. Stands (n + 1) t in
        both_last a b After (Stands (n + 1)) (λ s t h. h) (both_at a b (WritesSlot n (head_of x n)) After (Stands n) stands_more stands w)
