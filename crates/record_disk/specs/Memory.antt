-- A disk in memory.
use Rattle.std.specs.Prelude.{ℕ, ◌≡◌, ◌≤◌, ◌<◌, ◌+◌, ◌-◌, ◌^◌, ◌⊎◌, Contains, min, nat_lt, ◌++◌, ◌∷◌, MatchResult, if◌then◌else◌, List, [], length, slice_index}
use Rattle.std.specs.declared.result.Result.{Result}
use Rattle.lift_io.specs.Memory.{next}
use Rattle.record_disk.specs.declared.log.LogEntry.{LogEntry}
use Rattle.record_disk.specs.declared.log.LogEntry.TheVariants.{Wrote, Tore, Synced, NotSynced}
use Rattle.record_disk.specs.Disk.{Same, State, Told, Tells}
use Rattle.record_disk.specs.Image.{Image, content_of, filled, start}
use Rattle.record_disk.specs.Log.{LogData, after, state_of}

-- the calls of one kind: the numbers of those that fail, and how many were made
pub record CallsData : Type 0 where
  pub failing : List ℕ
  pub made : ℕ

-- none was made yet of which these fail
abbrev pub none_made : List ℕ → CallsData
none_made failing = record { failing = failing; made = 0 }

abbrev pub one_made : CallsData → CallsData
one_made calls = record { failing = calls.failing; made = next calls.made }

-- the next call is to fail
abbrev pub IsListed : CallsData → Type 0
IsListed calls = Contains calls.failing (next calls.made)

-- the next write or sync is to fail, or the log has no room for it
abbrev pub FailsNext : CallsData → LogData → Type 0
FailsNext calls log = IsListed calls ⊎ (log.room ≤ length log.entries)

-- its bytes at first, its writes and syncs since, the calls of each kind, and the count of faults
pub record MemoryData : Type 0 where
  pub first : List ℕ
  pub log : LogData
  pub reads : CallsData
  pub writes : CallsData
  pub syncs : CallsData
  pub faults : ℕ

-- its bytes after its calls
abbrev pub image_of : MemoryData → Image
image_of m = after (start (content_of m.first)) m.log.entries

abbrev pub state_in : MemoryData → State
state_in m = state_of (content_of m.first) m.log.entries

abbrev pub told_by : MemoryData → Told
told_by m = Tells (state_in m)

-- the writes and syncs that were called
abbrev pub called : MemoryData → ℕ
called m = min (m.writes.made + m.syncs.made) (2 ^ 64 - 1)

-- a new disk: all zeros, and nothing was called
pub record IsNew (room : ℕ) (reads writes syncs : List ℕ) (m : MemoryData) : Type 0 where
  pub zeros : (i : ℕ) → content_of m.first i ≡ 0
  pub log : m.log ≡ record { entries = []; room = room }
  pub calls : (m.reads ≡ none_made reads) × (m.writes ≡ none_made writes) × (m.syncs ≡ none_made syncs)
  pub faults : m.faults ≡ 0

-- the disk after a crash that puts this byte wherever it may put any
pub record IsCrashed (old new : MemoryData) (fill : ℕ) : Type 0 where
  pub bytes : Same (content_of new.first) (filled (image_of old) fill)
  pub log : new.log ≡ record { entries = []; room = old.log.room }
  pub calls : (new.reads ≡ none_made []) × (new.writes ≡ none_made []) × (new.syncs ≡ none_made [])
  pub faults : new.faults ≡ 0

-- the entries with one more, where there is room for it
abbrev pub noted : LogData → LogEntry → List LogEntry
noted log entry = if nat_lt (length log.entries) log.room then log.entries ++ entry ∷ [] else log.entries

-- the log after a write
abbrev pub LogsWrite : {T E : Type 0} → LogData → LogData → ℕ → List ℕ → Result T E → Type 0
LogsWrite old new at bytes result = MatchResult result
    (λ _. (padded : List ℕ) × (new ≡ record old { entries = old.entries ++ Wrote at (length bytes) padded ∷ [] })
    × ((k : ℕ) → k < length bytes → slice_index padded k ≡ slice_index bytes k))
    (λ _. new ≡ record old { entries = noted old (Tore at (length bytes)) })

-- the log after a sync
abbrev pub LogsSync : {T E : Type 0} → LogData → LogData → Result T E → Type 0
LogsSync old new result = MatchResult result
    (λ _. new ≡ record old { entries = old.entries ++ Synced ∷ [] })
    (λ _. new ≡ record old { entries = noted old NotSynced })
