-- What each call of a slot's writing leaves.
use Rattle.std.proofs.Common.{ℕ, ◌≡◌, ◌+◌, ◌*◌, ◌≤◌, ◌<◌, inl, inr, List, [], ◌∷◌, length, ◌∙◌, ap, subst, arith}
use Rattle.record_disk.specs.Disk.{Content, State, Told, IfTold, BothTold, Same, SameBut, IsAt, Writes, Syncs, IsSynced, IsPresent}
use Rattle.record_disk.specs.declared.sizes.TheConstants.{DISK_BYTES}
use Rattle.record_disk.proofs.Moments.{starts, passes, weaken, run_on, both_map, both_with, both_at, both_then, if_with}
use Rattle.record_store.specs.Writing.{IsDurable, LeavesOthers, PutsOnDisk, IsPartWritten, LeavesPart, WritesSlot}
use Rattle.record_store.specs.declared.slot.TheConstants.{GATE, SLOTS}

in_two : (at m n : ℕ) (b c d : Content) → SameBut at m c b → SameBut (at + m) n d c → SameBut at (m + n) d b
in_two at m n b c d first second i lt (inl before) = second i lt (inl (omega arith)) ∙ first i lt (inl before)
in_two at m n b c d first second i lt (inr after) = second i lt (inr (omega arith)) ∙ first i lt (inr (omega arith))

but_same : (at m : ℕ) (b c d : Content) → Same c b → SameBut at m d c → SameBut at m d b
but_same at m b c d same but i lt out = but i lt out ∙ same i lt

same_but : (at m : ℕ) (b c d : Content) → SameBut at m c b → Same d c → SameBut at m d b
same_but at m b c d but same i lt out = same i lt ∙ but i lt out

-- ---- a write and a sync

module _ (at : ℕ) (bytes : List ℕ) (inside : at + length bytes ≤ DISK_BYTES) where
  abbrev Others : State → Content → Type 0
  Others s c = SameBut at (length bytes) c s.reads

  -- the bytes are written, and may not yet be on the disk
  pub record IsPending (s t : State) : Type 0 where
    pub so_far : LeavesOthers at (length bytes) s t
    pub crash : (c : Content) → t.may_leave c → Others s c
    pub reads : Others s t.reads

  pending : (s t : State) → IsPresent s × IsDurable s → Writes at (length bytes) s t → IsPending s t
  pending s t (present, durable) writes = record {
    so_far = passes s s t (Others s) (starts s (Others s) present (λ c now i lt out. durable c now i lt)) writes.time left;
    crash = left;
    reads = writes.reads;
  }
    where
      left : (c : Content) → t.may_leave c → Others s c
      left c now = let from = writes.crash c now in but_same at (length bytes) s.reads from.0 c (durable from.0 from.1) from.2

  ends : (s t v : State) → IsPending s t → Syncs t v → LeavesOthers at (length bytes) s v
  ends s t v so sync = passes s t v (Others s) so.so_far sync.time (λ c now. so.crash c (sync.crash c now))

  done : (s t v : State) → IsPending s t × IsAt t.reads at bytes → IsSynced t v → PutsOnDisk at bytes s v
  done s t v (so, here) synced = record {
    others = same_but at (length bytes) s.reads t.reads v.reads so.reads synced.reads;
    bytes = λ k lt. synced.reads (at + k) (omega arith) ∙ here k lt;
    durable = synced.crash;
  }

  -- over a disk that may tell its contents
  module _ (a b : Told) where
    pub all_pending : IfTold a IsPresent → IfTold a IsDurable → BothTold a b (Writes at (length bytes)) → BothTold a b IsPending
    all_pending present durable writes =
        let Start : State → Type 0 = λ s. IsPresent s × IsDurable s in
        let start = if_with a IsPresent IsDurable Start (λ s p q. (p, q)) present durable in
        both_at a b (Writes at (length bytes)) IsPending Start pending start writes

    pub all_stopped : BothTold a b IsPending → BothTold a b (LeavesOthers at (length bytes))
    all_stopped so = both_map a b IsPending (LeavesOthers at (length bytes)) (λ s t w. w.so_far) so

    module _ (c : Told) where
      pub all_ended : BothTold a b IsPending → BothTold b c Syncs → BothTold a c (LeavesOthers at (length bytes))
      all_ended so sync = both_then a b c IsPending Syncs (LeavesOthers at (length bytes)) ends so sync

      pub all_put : BothTold a b IsPending → BothTold a b (λ s t. IsAt t.reads at bytes) → BothTold b c IsSynced
          → BothTold a c (PutsOnDisk at bytes)
      all_put so here synced =
          let Written : State → State → Type 0 = λ s t. IsPending s t × IsAt t.reads at bytes in
          both_then a b c Written IsSynced (PutsOnDisk at bytes) done
          (both_with a b IsPending (λ s t. IsAt t.reads at bytes) Written (λ s t p q. (p, q)) so here) synced

-- ---- the head, and then the gate

module _ (i : ℕ) (head : List ℕ) (place : i < SLOTS) (long : length head ≡ 15) where
  abbrev HeadOthers : State → State → Type 0
  HeadOthers = LeavesOthers (16 * i) (length head)

  abbrev GateOthers : State → State → Type 0
  GateOthers = LeavesOthers (16 * i + 15) 1

  -- the gate is down, or the head stands before it
  part_head : (s t : State) → HeadOthers s t → LeavesPart i head s t
  part_head s t leaves =
      weaken s t (λ c. SameBut (16 * i) (length head) c s.reads) (IsPartWritten s.reads i head)
      (λ c but. inl (subst (λ (n : ℕ). SameBut (16 * i) n c s.reads) long but)) leaves

  -- the head stands wherever the bytes below the gate do
  keeps : (c d : Content) → SameBut (16 * i + 15) 1 d c → IsAt c (16 * i) head → IsAt d (16 * i) head
  keeps c d but here k lt = but (16 * i + k) (omega arith) (inl (omega arith)) ∙ here k lt

  others : (b c d : Content) → SameBut (16 * i) (length head) c b → SameBut (16 * i + 15) 1 d c → SameBut (16 * i) 16 d b
  others b c d first second = in_two (16 * i) 15 1 b c d (subst (λ (n : ℕ). SameBut (16 * i) n c b) long first) second

  part_gate : (s t v : State) → HeadOthers s t × PutsOnDisk (16 * i) head s t → GateOthers t v → LeavesPart i head s v
  part_gate s t v (leaves, puts) gate =
      let Part : Content → Type 0 = IsPartWritten s.reads i head in
      run_on s t v Part (part_head s t leaves)
      (weaken t v (λ c. SameBut (16 * i + 15) 1 c t.reads) Part
      (λ c but. inr (others s.reads t.reads c puts.others but, keeps t.reads c but puts.bytes)) gate)

  whole : (s t v : State) → PutsOnDisk (16 * i) head s t → PutsOnDisk (16 * i + 15) (GATE ∷ []) t v → WritesSlot i head s v
  whole s t v puts gate = (
    record {
      others = others s.reads t.reads v.reads puts.others gate.others;
      bytes = keeps t.reads v.reads gate.others puts.bytes;
      gate = ap v.reads (omega arith) ∙ gate.bytes 0 (omega arith);
    },
    gate.durable,
  )

  module _ (a b : Told) where
    pub all_head : BothTold a b HeadOthers → BothTold a b (LeavesPart i head)
    all_head so = both_map a b HeadOthers (LeavesPart i head) part_head so

    module _ (c : Told) (puts : BothTold a b (PutsOnDisk (16 * i) head)) where
      pub all_gate : BothTold a b HeadOthers → BothTold b c GateOthers → BothTold a c (LeavesPart i head)
      all_gate so gate =
          let Head : State → State → Type 0 = λ s t. HeadOthers s t × PutsOnDisk (16 * i) head s t in
          both_then a b c Head GateOthers (LeavesPart i head) part_gate
          (both_with a b HeadOthers (PutsOnDisk (16 * i) head) Head (λ s t p q. (p, q)) so puts) gate

      pub all_whole : BothTold b c (PutsOnDisk (16 * i + 15) (GATE ∷ [])) → BothTold a c (WritesSlot i head)
      all_whole gate = both_then a b c (PutsOnDisk (16 * i) head) (PutsOnDisk (16 * i + 15) (GATE ∷ [])) (WritesSlot i head) whole puts gate
