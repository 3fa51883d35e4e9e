-- A store of a record over a disk, and what its calls leave.
use Rattle.std.specs.Prelude.{ℕ, ◌≡◌, ◌≤◌, ◌⊎◌, Bool, List, [], ◌∷◌, ◌++◌, length, take}
use Rattle.lift_io.specs.Causes.{Rose}
use Rattle.script_model.specs.Changes.{ChangeData}
use Rattle.record_disk.specs.Disk.{Content, State, Told, IfTold, LeavesOnly}
use Rattle.record_store.specs.Record.{IsClean}
use Rattle.record_store.specs.Writing.{IsDurable}
use Rattle.record_store.specs.declared.slot.TheConstants.{LAST_TICK}

-- how many entries it has, and whether it may be used
pub record StoreData : Type 0 where
  pub len : ℕ
  pub usable : Bool

-- what a read gives is clean with so many entries, and a crash may leave nothing else
pub record Stands (len : ℕ) (s : State) : Type 0 where
  pub entries : List ChangeData
  pub clean : IsClean s.reads entries
  pub all : length entries ≡ len
  pub durable : IsDurable s

-- a store stands over a disk; of a disk that does not tell its contents it says nothing
abbrev pub StandsOver : StoreData → Told → Type 0
StandsOver store told = IfTold told (Stands store.len)

-- a count of faults rises where a call has failed, and in no other
pub record RisesWhere (failed : Type 0) (before now : ℕ) : Type 0 where
  pub later : before ≤ now
  pub calm : (failed → ⊥) → now ≡ before
  pub rose : failed → Rose before now

-- a change may be stored
abbrev pub IsTimely : ChangeData → Type 0
IsTimely change = (1 ≤ change.tick) × (change.tick ≤ LAST_TICK)

-- ---- what a crash leaves of an append

-- at any moment the entries from before it, with the new one or without
abbrev pub LeavesOneMore : ChangeData → State → State → Type 0
LeavesOneMore change s t = (entries : List ChangeData) → IsClean s.reads entries
    → LeavesOnly s t (λ c. IsClean c entries ⊎ IsClean c (entries ++ change ∷ []))

-- a content is clean with these entries and after them so many of the changes, or fewer
abbrev pub HasFront : List ChangeData → List ChangeData → Content → Type 0
HasFront entries changes c = (n : ℕ) × (n ≤ length changes) × IsClean c (entries ++ take n changes)

-- at any moment the entries from before it, and a front of the changes
abbrev pub LeavesFront : List ChangeData → State → State → Type 0
LeavesFront changes s t = (entries : List ChangeData) → IsClean s.reads entries → LeavesOnly s t (HasFront entries changes)

-- in the end the entries from before it and all the changes, whatever crash comes
abbrev pub KeepsAll : List ChangeData → State → State → Type 0
KeepsAll changes s t = (entries : List ChangeData) → IsClean s.reads entries
    → IsClean t.reads (entries ++ changes) × ((c : Content) → t.may_leave c → IsClean c (entries ++ changes))
