-- What a disk tells of its bytes, and what its calls do to it.
use Rattle.std.specs.Prelude.{ℕ, ◌≡◌, ◌≤◌, ◌<◌, ◌+◌, ◌⊎◌, ◌↔◌, max, List, length, slice_index}
use Rattle.std.specs.declared.option.Option.{Option}
use Rattle.std.specs.declared.option.Option.TheVariants.{Some, None}
use Rattle.lift_io.specs.Memory.{next}
use Rattle.record_disk.specs.declared.sizes.TheConstants.{DISK_BYTES}

-- ---- contents

-- the bytes of a disk, by their places; a place from DISK_BYTES on means nothing
abbrev pub Content : Type 0
Content = ℕ → ℕ

-- the same bytes
abbrev pub Same : Content → Content → Type 0
Same c d = (i : ℕ) → i < DISK_BYTES → c i ≡ d i

-- the same bytes outside a range
abbrev pub SameBut : ℕ → ℕ → Content → Content → Type 0
SameBut at count c d = (i : ℕ) → i < DISK_BYTES → (i < at) ⊎ (at + count ≤ i) → c i ≡ d i

-- from this place on the bytes are these
abbrev pub IsAt : Content → ℕ → List ℕ → Type 0
IsAt c at bytes = (k : ℕ) → k < length bytes → c (at + k) ≡ slice_index bytes k

-- a crash leaves this content and nothing else
abbrev pub Only : Content → (Content → Type 0) → Type 0
Only c outcomes = (d : Content) → outcomes d → Same d c

-- ---- what is told

-- what a disk tells of its bytes
pub record State : Type 1 where
  -- the present moment
  pub moment : ℕ
  -- what a read gives
  pub reads : Content
  -- which contents a crash may leave now
  pub may_leave : Content → Type 0
  -- which contents a crash at some moment since a given time might have left
  pub left_since : ℕ → Content → Type 0

-- a disk tells its contents, or does not
pub data Told : Type 1 where
  Silent : Told
  Tells : State → Told

-- of a disk that tells its contents
abbrev pub IfTold : Told → (State → Type 0) → Type 0
IfTold Silent P = Unit {0}
IfTold (Tells s) P = P s

-- before and after a call: it tells its contents after it where it did before, and this holds, or it does not, as before
abbrev pub BothTold : Told → Told → (State → State → Type 0) → Type 0
BothTold Silent Silent P = Unit {0}
BothTold Silent (Tells t) P = ⊥
BothTold (Tells s) Silent P = ⊥
BothTold (Tells s) (Tells t) P = P s t

-- at each moment
pub record IsPresent (s : State) : Type 0 where
  -- since the present moment there is no other
  pub now : (c : Content) → s.left_since s.moment c ↔ s.may_leave c
  -- as it reads it may be left
  pub as_read : s.may_leave s.reads

-- ---- the calls

-- Time goes on: a crash since a time up to the call's start might have left what it might have left before, or what it may leave now.
pub record Passes (s t : State) : Type 0 where
  pub later : s.moment ≤ t.moment
  pub since : (u : ℕ) (c : Content) → u ≤ s.moment → t.left_since u c → s.left_since u c ⊎ t.may_leave c

-- a read, also one that fails
pub record Reads (s t : State) : Type 0 where
  pub later : s.moment ≤ t.moment
  pub reads : Same t.reads s.reads
  pub crash : (c : Content) → t.may_leave c ↔ s.may_leave c
  pub since : (u : ℕ) (c : Content) → t.left_since u c ↔ s.left_since u c

-- a write of so many bytes, also one that fails: each byte of the range may hold anything after a crash, and all other bytes stay
pub record Writes (at count : ℕ) (s t : State) : Type 0 where
  pub time : Passes s t
  pub reads : SameBut at count t.reads s.reads
  pub crash : (c : Content) → t.may_leave c → (d : Content) × s.may_leave d × SameBut at count c d

-- a sync, also one that fails
pub record Syncs (s t : State) : Type 0 where
  pub time : Passes s t
  pub crash : (c : Content) → t.may_leave c → s.may_leave c

-- a sync that answers Ok
pub record IsSynced (s t : State) : Type 0 where
  pub reads : Same t.reads s.reads
  pub crash : Only t.reads t.may_leave

-- ---- many calls

-- a crash at any moment since s leaves a content that has P
pub record LeavesOnly (s t : State) (P : Content → Type 0) : Type 0 where
  pub later : s.moment ≤ t.moment
  pub each : (c : Content) → t.left_since s.moment c → P c
  -- for a run that began earlier
  pub before : (u : ℕ) (c : Content) → u ≤ s.moment → t.left_since u c → s.left_since u c ⊎ P c

-- a count after one more, which stays at its type's end
abbrev pub raised : ℕ → ℕ
raised n = max n (next n)

-- of the counts of writes and syncs before and after, where they are told
abbrev pub OfCounts : (ℕ → ℕ → Type 0) → Option ℕ → Option ℕ → Type 0
OfCounts P None None = Unit {0}
OfCounts P None (Some n) = ⊥
OfCounts P (Some m) None = ⊥
OfCounts P (Some m) (Some n) = P m n

-- one more
abbrev pub Counted : Option ℕ → Option ℕ → Type 0
Counted = OfCounts (λ m n. n ≡ raised m)

-- so many more, or fewer
abbrev pub CountedUpTo : ℕ → Option ℕ → Option ℕ → Type 0
CountedUpTo most = OfCounts (λ m n. (m ≤ n) × (n ≤ m + most))

-- one more, or more than one
abbrev pub CountedOnce : Option ℕ → Option ℕ → Type 0
CountedOnce = OfCounts (λ m n. raised m ≤ n)

-- two more, or more than two
abbrev pub CountedTwice : Option ℕ → Option ℕ → Type 0
CountedTwice = OfCounts (λ m n. raised (raised m) ≤ n)
