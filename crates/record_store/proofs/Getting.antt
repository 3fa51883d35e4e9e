-- What reads leave of a store over its disk.
use Rattle.std.proofs.Common.{ℕ, ◌≡◌, ◌≢◌, ◌+◌, ◌*◌, ◌≤◌, ◌<◌, ◌⊎◌, List, length, slice_get, Some, sym, ◌∙◌, ap, subst, arith}
use Rattle.script_model.specs.Changes.{ChangeData}
use Rattle.record_disk.specs.Disk.{Content, State, Told, IfTold, BothTold, Same, IsPresent, Syncs, IsSynced, Reads, LeavesOnly}
use Rattle.record_disk.proofs.Moments.{Between, starts, passes, reads_on, both_at, both_map, both_with, both_start, both_last, both_then}
use Rattle.record_store.specs.Record.{IsClean, IsCleanWith, IsForeign, IsUnclean}
use Rattle.record_store.specs.Slot.{slot, gate_in, change_in, IsGood}
use Rattle.record_store.specs.Store.{Stands}
use Rattle.record_store.specs.declared.slot.TheConstants.{GATE, SLOTS}
use Rattle.record_store.proofs.Appending.{counts}
use Rattle.record_store.proofs.Clean.{clean_same}
use Rattle.record_store.proofs.Slots.{slot_same}
use Rattle.record_store.proofs.Scanning.{Scanned, none_scanned, up_scanned, down_scanned, foreign, foreign_same, not_clean, all_scanned}

back : (c d : Content) → Same c d → Same d c
back c d same i lt = sym (same i lt)

-- ---- reads, one after the other

reads_none : (s : State) → Reads s s
reads_none s = record {
  later = omega arith;
  reads = λ i lt j. s.reads i;
  crash = λ c. (λ h. h, λ h. h);
  since = λ u c. (λ h. h, λ h. h);
}

reads_more : (s t v : State) → Reads s t → Reads t v → Reads s v
reads_more s t v one two = record {
  later = omega (arith, one.later, two.later);
  reads = λ i lt. two.reads i lt ∙ one.reads i lt;
  crash = λ c. (λ h. (one.crash c).0 ((two.crash c).0 h), λ h. (two.crash c).1 ((one.crash c).1 h));
  since = λ u c. (λ h. (one.since u c).0 ((two.since u c).0 h), λ h. (two.since u c).1 ((one.since u c).1 h));
}

-- ---- an entry

stands_read : (n : ℕ) (s t : State) → Stands n s → Reads s t → Stands n t
stands_read n s t stands read = record {
  entries = stands.entries;
  clean = clean_same s.reads t.reads stands.entries stands.clean read.reads;
  all = stands.all;
  durable = λ d now i lt. stands.durable d ((read.crash d).0 now) i lt ∙ sym (read.reads i lt);
}

pub still_stands : (n : ℕ) (a b : Told) → IfTold a (Stands n) → BothTold a b Reads → IfTold b (Stands n)
still_stands n a b stands read =
    let After : Between = λ s t. Stands n t in
    both_last a b After (Stands n) (λ s t h. h) (both_at a b Reads After (Stands n) (stands_read n) stands read)

-- the bytes of a slot that was read
abbrev pub IsSlot : ℕ → List ℕ → Between
IsSlot i bytes s t = bytes ≡ slot s.reads i

abbrev pub IsEntry : ℕ → ChangeData → Between
IsEntry i x s t = (entries : List ChangeData) → IsClean s.reads entries → slice_get entries i ≡ Some x

pub entry_read : (n i : ℕ) (bytes : List ℕ) (x : ChangeData) (a b : Told) → i < n → x ≡ change_in bytes
    → IfTold a (Stands n) → BothTold a b (IsSlot i bytes) → BothTold a b (IsEntry i x)
entry_read n i bytes x a b lt is stands at = both_at a b (IsSlot i bytes) (IsEntry i x) (Stands n) entry stands at
  where
    entry : (s t : State) → Stands n s → IsSlot i bytes s t → IsEntry i x s t
    entry s t stands at entries clean =
        let count : length entries ≡ n = counts n s stands entries clean in
        clean.hold i (omega arith) ∙ ap Some (sym (is ∙ ap change_in at))

-- ---- all slots

-- so many slots were read, and what they hold
abbrev pub ScansTo : ℕ → ℕ → Between
ScansTo i n s t = Reads s t × Scanned s.reads i n

pub scan_starts : (a : Told) → IfTold a IsPresent → BothTold a a (ScansTo 0 0)
scan_starts a present = both_start a (ScansTo 0 0) IsPresent (λ s _. (reads_none s, none_scanned s.reads)) present

-- and the bytes of the next
abbrev pub ScansAt : ℕ → ℕ → List ℕ → Between
ScansAt i n bytes s t = Reads s t × Scanned s.reads i n × (bytes ≡ slot s.reads i)

pub scan_reads : (i n : ℕ) (bytes : List ℕ) (a b c : Told) → i < SLOTS
    → BothTold a b (ScansTo i n) → BothTold b c Reads → BothTold b c (IsSlot i bytes) → BothTold a c (ScansAt i n bytes)
scan_reads i n bytes a b c place so read at =
    let Next : Between = λ s t. Reads s t × IsSlot i bytes s t in
    let same : (s t : State) → Reads s t → slot t.reads i ≡ slot s.reads i = λ s t read.
    slot_same s.reads t.reads i (λ k lt. read.reads (16 * i + k) (omega arith)) in
    both_then a b c (ScansTo i n) Next (ScansAt i n bytes)
    (λ s t v one two. (reads_more s t v one.0 two.0, one.1, two.1 ∙ same s t one.0))
    so (both_with b c Reads (IsSlot i bytes) Next (λ s t p q. (p, q)) read at)

pub scan_err : (i n : ℕ) (a b c : Told) → BothTold a b (ScansTo i n) → BothTold b c Reads → BothTold a c Reads
scan_err i n a b c so read = both_then a b c (ScansTo i n) Reads Reads (λ s t v one two. reads_more s t v one.0 two) so read

module _ (i n : ℕ) (bytes : List ℕ) (a b : Told) (so : BothTold a b (ScansAt i n bytes)) where
  pub scan_up : i ≤ n → IsGood bytes i → BothTold a b (ScansTo (i + 1) (n + 1))
  scan_up le good = both_map a b (ScansAt i n bytes) (ScansTo (i + 1) (n + 1))
      (λ s t h. (h.0, up_scanned s.reads i n bytes h.1 h.2 le good)) so

  pub scan_down : gate_in bytes ≢ GATE → BothTold a b (ScansTo (i + 1) n)
  scan_down down = both_map a b (ScansAt i n bytes) (ScansTo (i + 1) n) (λ s t h. (h.0, down_scanned s.reads i n bytes h.1 h.2 down)) so

  pub scan_foreign : i < SLOTS → gate_in bytes ≡ GATE → (n < i) ⊎ (IsGood bytes i → ⊥) → BothTold a b (λ s t. IsForeign s.reads i)
  scan_foreign place up why = both_map a b (ScansAt i n bytes) (λ s t. IsForeign s.reads i)
      (λ s t h. foreign s.reads i n bytes h.1 h.2 place up why) so

  pub scan_read : BothTold a b Reads
  scan_read = both_map a b (ScansAt i n bytes) Reads (λ s t h. h.0) so

module _ (i n : ℕ) (a b : Told) (so : BothTold a b (ScansTo i n)) where
  pub scan_ends : i ≡ SLOTS → BothTold a b (λ s t. IsCleanWith s.reads n)
  scan_ends end = both_map a b (ScansTo i n) (λ s t. IsCleanWith s.reads n)
      (λ s t h. all_scanned s.reads n (subst (λ (k : ℕ). Scanned s.reads k n) end h.1)) so

  pub scan_over : BothTold a b Reads
  scan_over = both_map a b (ScansTo i n) Reads (λ s t h. h.0) so

-- ---- a sync, and then reads

module _ (a b c : Told) where
  abbrev pub Before : Between
  Before s t = LeavesOnly s t s.may_leave

  pub open_syncs : IfTold a IsPresent → BothTold a b Syncs → BothTold a b Before
  open_syncs present sync = both_at a b Syncs Before IsPresent
      (λ s t p y. passes s s t s.may_leave (starts s s.may_leave p (λ d h. h)) y.time (λ d now. y.crash d now)) present sync

  pub open_reads : BothTold a b Before → BothTold b c Reads → BothTold a c Before
  open_reads so read = both_then a b c Before Reads Before (λ s t v one two. reads_on s t v s.may_leave one two) so read

  pub open_same : BothTold a b IsSynced → BothTold b c Reads → BothTold a c (λ s t. Same t.reads s.reads)
  open_same synced read = both_then a b c IsSynced Reads (λ s t. Same t.reads s.reads)
      (λ s t v one two i lt. two.reads i lt ∙ one.reads i lt) synced read

  module _ (n : ℕ) (synced : BothTold a b IsSynced) (clean : BothTold b c (λ s t. IsCleanWith s.reads n)) where
    abbrev IsCleanFirst : Between
    IsCleanFirst s t = IsCleanWith s.reads n

    pub open_clean : BothTold a c IsCleanFirst
    open_clean = both_then a b c IsSynced IsCleanFirst IsCleanFirst
        (λ s t v one two. (two.0, clean_same t.reads s.reads two.0 two.1 (back t.reads s.reads one.reads), two.2)) synced clean

    abbrev ReadsClean : Between
    ReadsClean s t = Reads s t × IsCleanWith s.reads n

    pub open_stands : BothTold b c Reads → IfTold c (Stands n)
    open_stands read =
        let After : Between = λ s t. Stands n t in
        both_last a c After (Stands n) (λ s t h. h) (both_then a b c IsSynced ReadsClean After
        (λ s t v one two. stands_read n t v (record { entries = two.1.0; clean = two.1.1; all = two.1.2; durable = one.crash }) two.0)
        synced (both_with b c Reads IsCleanFirst ReadsClean (λ s t p q. (p, q)) read clean))

  abbrev pub IsForeignAt : ℕ → Between
  IsForeignAt i s t = IsForeign s.reads i

  pub open_foreign : (i : ℕ) → BothTold a b IsSynced → BothTold b c (IsForeignAt i)
      → BothTold a c (λ s t. IsForeign s.reads i × IsUnclean s.reads)
  open_foreign i synced foreign =
      let Both : Between = λ s t. IsForeign s.reads i × IsUnclean s.reads in
      both_map a c (IsForeignAt i) Both (λ s t h. (h, not_clean s.reads i h))
      (both_then a b c IsSynced (IsForeignAt i) (IsForeignAt i)
      (λ s t v one two. foreign_same t.reads s.reads i (back t.reads s.reads one.reads) one.reads two) synced foreign)
