-- What a log of writes and syncs says of a disk.
use Rattle.std.specs.Prelude.{ℕ, ◌≤◌, List, [], ◌∷◌, length, take}
use Rattle.record_disk.specs.declared.log.LogEntry.{LogEntry}
use Rattle.record_disk.specs.declared.log.LogEntry.TheVariants.{Wrote, Tore, Synced, NotSynced}
use Rattle.record_disk.specs.Disk.{Content, State}
use Rattle.record_disk.specs.Image.{Image, Leaves, start, after_write, after_tear, after_sync}

-- its entries, and how many it has room for
pub record LogData : Type 0 where
  pub entries : List LogEntry
  pub room : ℕ

abbrev pub step : Image → LogEntry → Image
step m (Wrote at count bytes) = after_write m at count bytes
step m (Tore at count) = after_tear m at count
step m Synced = after_sync m
step m NotSynced = m

abbrev pub after : Image → List LogEntry → Image
after m [] = m
after m (entry ∷ entries) = after (step m entry) entries

-- what a disk tells that had these bytes at first, and these calls since: each call is a moment
abbrev pub state_of : Content → List LogEntry → State
state_of first log = record {
  moment = length log;
  reads = (after (start first) log).seen;
  may_leave = Leaves (after (start first) log);
  left_since = λ u c. (k : ℕ) × (u ≤ k) × (k ≤ length log) × Leaves (after (start first) (take k log)) c;
}
