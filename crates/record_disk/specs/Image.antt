-- What calls leave of the bytes of a disk.
use Rattle.std.specs.Prelude.{ℕ, ◌≡◌, ◌<◌, ◌+◌, ◌-◌, Bool, false, ◌&&◌, ◌||◌, nat_le, nat_lt, if◌then◌else◌, List, slice_index, slice_index_or}
use Rattle.record_disk.specs.Disk.{Content}
use Rattle.record_disk.specs.declared.sizes.TheConstants.{DISK_BYTES}

-- what a read gives, what was there at the last sync, and which bytes may hold anything after a crash
pub record Image : Type 0 where
  pub seen : Content
  pub synced : Content
  pub dirty : ℕ → Bool

-- three lists that hold an image
pub record MirrorData : Type 0 where
  pub seen : List ℕ
  pub synced : List ℕ
  pub dirty : List Bool

abbrev pub content_of : List ℕ → Content
content_of bytes i = slice_index bytes i

abbrev pub image_in : MirrorData → Image
image_in m = record { seen = content_of m.seen; synced = content_of m.synced; dirty = λ i. slice_index_or m.dirty i false }

-- the same at each place
pub record IsLike (m n : Image) : Type 0 where
  pub seen : (i : ℕ) → i < DISK_BYTES → m.seen i ≡ n.seen i
  pub synced : (i : ℕ) → i < DISK_BYTES → m.synced i ≡ n.synced i
  pub dirty : (i : ℕ) → i < DISK_BYTES → m.dirty i ≡ n.dirty i

abbrev pub in_range : ℕ → ℕ → ℕ → Bool
in_range at count i = nat_le at i && nat_lt i (at + count)

-- so many of these bytes over others
abbrev pub over : ℕ → ℕ → List ℕ → Content → Content
over at count bytes c i = if in_range at count i then slice_index bytes (i - at) else c i

abbrev pub marked : ℕ → ℕ → (ℕ → Bool) → ℕ → Bool
marked at count dirty i = in_range at count i || dirty i

-- these bytes, all on the disk
abbrev pub start : Content → Image
start c = record { seen = c; synced = c; dirty = λ i. false }

abbrev pub after_write : Image → ℕ → ℕ → List ℕ → Image
after_write m at count bytes = record { seen = over at count bytes m.seen; synced = m.synced; dirty = marked at count m.dirty }

-- a write that failed
abbrev pub after_tear : Image → ℕ → ℕ → Image
after_tear m at count = record { seen = m.seen; synced = m.synced; dirty = marked at count m.dirty }

abbrev pub after_sync : Image → Image
after_sync m = start m.seen

-- what a crash leaves that puts this byte wherever it may put any
abbrev pub filled : Image → ℕ → Content
filled m fill i = if m.dirty i then fill else m.synced i

-- what a crash may leave: anything in the bytes that were to be written since the last sync, and else what was there
abbrev pub Leaves : Image → Content → Type 0
Leaves m c = (i : ℕ) → i < DISK_BYTES → m.dirty i ≡ false → c i ≡ m.synced i
