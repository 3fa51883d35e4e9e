-- How a slot is written.
use Rattle.std.specs.Prelude.{ℕ, ◌*◌, ◌⊎◌, List, length}
use Rattle.record_disk.specs.Disk.{Content, State, SameBut, IsAt, Only, LeavesOnly}
use Rattle.record_store.specs.Slot.{IsUp}

-- nothing is pending: a crash leaves what a read gives
abbrev pub IsDurable : State → Type 0
IsDurable s = Only s.reads s.may_leave

-- ---- some bytes

-- a crash at any moment leaves all bytes as they were but those of a range
abbrev pub LeavesOthers : ℕ → ℕ → State → State → Type 0
LeavesOthers at count s t = LeavesOnly s t (λ c. SameBut at count c s.reads)

-- these bytes are on the disk, and all others as they were
pub record PutsOnDisk (at : ℕ) (written : List ℕ) (s t : State) : Type 0 where
  pub others : SameBut at (length written) t.reads s.reads
  pub bytes : IsAt t.reads at written
  pub durable : IsDurable t

-- ---- a slot

-- what a crash may leave while slot i is written: the gate and all else as it was, or the gate anything and these bytes before it
abbrev pub IsPartWritten : Content → ℕ → List ℕ → Content → Type 0
IsPartWritten c i head d = SameBut (16 * i) 15 d c ⊎ (SameBut (16 * i) 16 d c × IsAt d (16 * i) head)

-- slot i is written, and nothing else
pub record IsWritten (c : Content) (i : ℕ) (head : List ℕ) (d : Content) : Type 0 where
  pub others : SameBut (16 * i) 16 d c
  pub bytes : IsAt d (16 * i) head
  pub gate : IsUp d i

-- a crash at any moment leaves the slot as it was, or in part
abbrev pub LeavesPart : ℕ → List ℕ → State → State → Type 0
LeavesPart i head s t = LeavesOnly s t (IsPartWritten s.reads i head)

-- the slot is written, and on the disk
abbrev pub WritesSlot : ℕ → List ℕ → State → State → Type 0
WritesSlot i head s t = IsWritten s.reads i head t.reads × IsDurable t
