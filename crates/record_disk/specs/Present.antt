-- What a disk that keeps a log tells of its present moment.
use Rattle.std.specs.Prelude.{ℕ, ◌≡◌, ◌-◌, Bool, true, false, ◌||◌, if◌then◌else◌, slice_index, List, [], ◌∷◌, length, take}
use Rattle.std.proofs.Common.{refl, sym, subst, arith}
use Rattle.std.proofs.lemmas.List.{take_all}
use Rattle.record_disk.specs.declared.log.LogEntry.{LogEntry}
use Rattle.record_disk.specs.declared.log.LogEntry.TheVariants.{Wrote, Tore, Synced, NotSynced}
use Rattle.record_disk.specs.Disk.{Content, IsPresent}
use Rattle.record_disk.specs.Image.{Image, Leaves, in_range, start}
use Rattle.record_disk.specs.Log.{step, after, state_of}

-- a byte that was not written since the last sync reads as it is on the disk
abbrev pub Settled : Image → Type 0
Settled m = (i : ℕ) → m.dirty i ≡ false → m.seen i ≡ m.synced i

pub unmarked : (a b : Bool) → (a || b) ≡ false → (a ≡ false) × (b ≡ false)
unmarked true b h = absurd (cc)
unmarked false b h = (refl, h)

settled_step : (m : Image) (entry : LogEntry) → Settled m → Settled (step m entry)
settled_step m (Wrote at count bytes) so i clean =
    let parts = unmarked (in_range at count i) (m.dirty i) clean in
    let Reads : Bool → Type 0 = λ b. (if b then slice_index bytes (i - at) else m.seen i) ≡ m.synced i in
    subst Reads (sym parts.0) (so i parts.1)
settled_step m (Tore at count) so i clean = so i (unmarked (in_range at count i) (m.dirty i) clean).1
settled_step m Synced so i clean = refl
settled_step m NotSynced so i clean = so i clean

pub settled : (m : Image) (entries : List LogEntry) → Settled m → Settled (after m entries)
settled m [] so = so
settled m (entry ∷ entries) so = settled (step m entry) entries (settled_step m entry so)

pub present : (first : Content) (log : List LogEntry) → IsPresent (state_of first log)
present first log =
    let Left : Content → List LogEntry → Type 0 = λ c l. Leaves (after (start first) l) c in
    let whole : take (length log) log ≡ log = take_all (length log) log (omega arith) in
    record {
      now = λ c. (
        λ left. subst (Left c) (take_all left.0 log left.1) left.3,
        λ may. (length log, omega arith, omega arith, subst (Left c) (sym whole) may),
      );
      as_read = λ i lt clean. settled (start first) log (λ k h. refl) i clean;
    }
