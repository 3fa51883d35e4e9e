-- A mirror of a disk stays one by each call.
use Rattle.std.proofs.Common.{ℕ, ◌≡◌, ◌<◌, Bool, ◌||◌, List, [], ◌∷◌, ◌++◌, get_or, refl, sym, ◌∙◌, ap, subst}
use Rattle.record_disk.specs.declared.log.LogEntry.{LogEntry}
use Rattle.record_disk.specs.declared.log.LogEntry.TheVariants.{Wrote, Tore, Synced, NotSynced}
use Rattle.record_disk.specs.Disk.{Content}
use Rattle.record_disk.specs.Image.{Image, IsLike, in_range, marked, start, after_write, after_tear, after_sync}
use Rattle.record_disk.specs.Log.{step, after}
use Rattle.record_disk.specs.declared.sizes.TheConstants.{DISK_BYTES}
use Rattle.record_disk.proofs.Ranges.{over_same}
use Rattle.record_disk.proofs.Logged.{after_more}

pub like_then : (l m n : Image) → IsLike l m → IsLike m n → IsLike l n
like_then l m n one two = record {
  seen = λ i lt. one.seen i lt ∙ two.seen i lt;
  synced = λ i lt. one.synced i lt ∙ two.synced i lt;
  dirty = λ i lt. one.dirty i lt ∙ two.dirty i lt;
}

-- the same flags with the same range marked
still_marked : (at count : ℕ) (m n : Image) → IsLike m n → (i : ℕ) → i < DISK_BYTES → marked at count m.dirty i ≡ marked at count n.dirty i
still_marked at count m n like i lt = ap (λ (b : Bool). in_range at count i || b) (like.dirty i lt)

write_like : (at count : ℕ) (xs ys : List ℕ) (m n : Image) → ((k : ℕ) → k < count → get_or ys k 0 ≡ get_or xs k 0) → IsLike m n
    → IsLike (after_write m at count xs) (after_write n at count ys)
write_like at count xs ys m n same like = record {
  seen = λ i lt. over_same at count i xs ys m.seen n.seen (λ k less. sym (same k less)) (like.seen i lt);
  synced = like.synced;
  dirty = still_marked at count m n like;
}

tear_like : (at count : ℕ) (m n : Image) → IsLike m n → IsLike (after_tear m at count) (after_tear n at count)
tear_like at count m n like = record { seen = like.seen; synced = like.synced; dirty = still_marked at count m n like }

sync_like : (m n : Image) → IsLike m n → IsLike (after_sync m) (after_sync n)
sync_like m n like = record { seen = like.seen; synced = like.seen; dirty = λ i lt. refl }

-- the log has one entry more, and the mirror took the same step
module _ (first : Content) (log new : List LogEntry) where
  abbrev image : Image
  image = after (start first) log

  stepped : (m : Image) (entry : LogEntry) → new ≡ log ++ entry ∷ [] → IsLike m (step image entry) → IsLike m (after (start first) new)
  stepped m entry is like = subst (IsLike m) (sym (ap (after (start first)) is ∙ after_more (start first) log entry)) like

  pub not_synced : (m : Image) → new ≡ log ++ NotSynced ∷ [] → IsLike m image → IsLike m (after (start first) new)
  not_synced m is like = stepped m NotSynced is like

  module _ (m m' : Image) where
    pub synced : new ≡ log ++ Synced ∷ [] → IsLike m image → IsLike m' (after_sync m) → IsLike m' (after (start first) new)
    synced is like now = stepped m' Synced is (like_then m' (after_sync m) (after_sync image) now (sync_like m image like))

    pub tore : (at count : ℕ) → new ≡ log ++ Tore at count ∷ [] → IsLike m image → IsLike m' (after_tear m at count)
        → IsLike m' (after (start first) new)
    tore at count is like now = stepped m' (Tore at count) is
        (like_then m' (after_tear m at count) (after_tear image at count) now (tear_like at count m image like))

    pub wrote : (at count : ℕ) (given padded : List ℕ) → new ≡ log ++ Wrote at count padded ∷ []
        → ((k : ℕ) → k < count → get_or padded k 0 ≡ get_or given k 0) → IsLike m image → IsLike m' (after_write m at count given)
        → IsLike m' (after (start first) new)
    wrote at count given padded is same like now =
        let taken = write_like at count given padded m image same like in
        stepped m' (Wrote at count padded) is (like_then m' (after_write m at count given) (after_write image at count padded) now taken)
