-- A record of changes in the slots of a disk.
use Rattle.std.specs.Prelude.{ℕ, ◌≡◌, ◌≤◌, ◌<◌, ◌⊎◌, List, length, slice_get, Some}
use Rattle.script_model.specs.Changes.{ChangeData}
use Rattle.record_disk.specs.Disk.{Content}
use Rattle.record_store.specs.Slot.{slot, change_in, IsGood, IsUp}
use Rattle.record_store.specs.declared.slot.TheConstants.{SLOTS}

-- a content is clean with these entries: the first slots are good and hold them, and no later gate is up
pub record IsClean (c : Content) (entries : List ChangeData) : Type 0 where
  pub room : length entries ≤ SLOTS
  pub good : (i : ℕ) → i < length entries → IsGood (slot c i) i
  pub hold : (i : ℕ) → i < length entries → slice_get entries i ≡ Some (change_in (slot c i))
  pub shut : (i : ℕ) → length entries ≤ i → i < SLOTS → IsUp c i → ⊥

-- with so many
abbrev pub IsCleanWith : Content → ℕ → Type 0
IsCleanWith c n = (entries : List ChangeData) × IsClean c entries × (length entries ≡ n)

-- with none
abbrev pub IsUnclean : Content → Type 0
IsUnclean c = (entries : List ChangeData) → IsClean c entries → ⊥

-- the gate of slot i is up, and the slot is not good or comes after one whose gate is not up
abbrev pub IsStray : Content → ℕ → Type 0
IsStray c i = IsUp c i × ((IsGood (slot c i) i → ⊥) ⊎ ((k : ℕ) × (k < i) × (IsUp c k → ⊥)))

-- slot i is the first such
pub record IsForeign (c : Content) (i : ℕ) : Type 0 where
  pub place : i < SLOTS
  pub stray : IsStray c i
  pub first : (k : ℕ) → k < i → IsStray c k → ⊥
