-- One more entry in a log.
use Rattle.std.proofs.Common.{ℕ, ◌≡◌, ◌+◌, ◌≤◌, ◌<◌, ◌⊎◌, inl, inr, Bool, false, ◌||◌, if◌then◌else◌, List, [], ◌∷◌, ◌++◌, length, get_or, refl, sym, ◌∙◌, ap, subst, arith, length-append}
use Rattle.std.proofs.lemmas.Bool.{cases_lt}
use Rattle.std.proofs.lemmas.List.{take_all, take-append-le}
use Rattle.record_disk.specs.declared.log.LogEntry.{LogEntry}
use Rattle.record_disk.specs.declared.log.LogEntry.TheVariants.{Wrote, Tore, Synced, NotSynced}
use Rattle.record_disk.specs.Disk.{Content, State, SameBut, IsAt, Passes, Writes, Syncs, IsSynced}
use Rattle.record_disk.specs.Image.{Image, Leaves, in_range, marked, start}
use Rattle.record_disk.specs.Log.{step, after, state_of}
use Rattle.record_disk.specs.Present.{settled}
use Rattle.record_disk.proofs.Ranges.{inside, outside, which, over_outside, over_at}

pub after_more : (m : Image) (log : List LogEntry) (entry : LogEntry) → after m (log ++ entry ∷ []) ≡ step (after m log) entry
after_more m [] entry = refl
after_more m (first ∷ log) entry = after_more (step m first) log entry

-- a write that was not logged
pub writes_none : (at count : ℕ) (s : State) → Writes at count s s
writes_none at count s = record {
  time = record { later = omega arith; since = λ u c le left. inl left };
  reads = λ i lt out. refl;
  crash = λ c now. (c, now, λ i lt out. refl);
}

-- ---- a range that is torn

-- the bytes that were synced in a range, and else those of a content
abbrev unwrite : ℕ → ℕ → Image → Content → Content
unwrite at count m c i = if in_range at count i then m.synced i else c i

un_inside : (at count : ℕ) (m : Image) (c : Content) (i : ℕ) → at ≤ i → i < at + count → unwrite at count m c i ≡ m.synced i
un_inside at count m c i from to = ap (λ (b : Bool). if b then m.synced i else c i) (inside at count i from to)

un_outside : (at count : ℕ) (m : Image) (c : Content) (i : ℕ) → (i < at) ⊎ (at + count ≤ i) → unwrite at count m c i ≡ c i
un_outside at count m c i out = ap (λ (b : Bool). if b then m.synced i else c i) (outside at count i out)

-- what a crash may leave after it differs in that range alone from what a crash may have left before it
torn : (at count : ℕ) (m n : Image) → n.synced ≡ m.synced → n.dirty ≡ marked at count m.dirty
    → (c : Content) → Leaves n c → (d : Content) × Leaves m d × SameBut at count c d
torn at count m n synced dirty c left = (unwrite at count m c, leaves, λ i lt out. sym (un_outside at count m c i out))
  where
    still : (i : ℕ) → (i < at) ⊎ (at + count ≤ i) → m.dirty i ≡ false → n.dirty i ≡ false
    still i out clean =
        ap (λ (f : ℕ → Bool). f i) dirty ∙ ap (λ (b : Bool). b || m.dirty i) (outside at count i out) ∙ clean

    leaves : Leaves m (unwrite at count m c)
    leaves i lt clean = elim (which at count i) [
      | inl range ↦ un_inside at count m c i range.0 range.1
      | inr out ↦ un_outside at count m c i out ∙ left i lt (still i out clean) ∙ ap (λ (f : Content). f i) synced
    ]

-- ---- the log with one entry more

module _ (first : Content) (log : List LogEntry) where
  abbrev image : Image
  image = after (start first) log

  abbrev was : State
  was = state_of first log

  abbrev with_entry : LogEntry → State
  with_entry entry = state_of first (log ++ entry ∷ [])

  seen_with : (entry : LogEntry) (i : ℕ) → (with_entry entry).reads i ≡ (step image entry).seen i
  seen_with entry i = ap (λ (m : Image). m.seen i) (after_more (start first) log entry)

  left_with : (entry : LogEntry) (c : Content) → (with_entry entry).may_leave c → Leaves (step image entry) c
  left_with entry c left = subst (λ (m : Image). Leaves m c) (after_more (start first) log entry) left

  -- an earlier moment is told as before
  passes : (entry : LogEntry) → Passes was (with_entry entry)
  passes entry =
      let Left : Content → List LogEntry → Type 0 = λ c l. Leaves (after (start first) l) c in
      let more = log ++ entry ∷ [] in
      let long : length more ≡ length log + 1 = length-append log (entry ∷ []) in
      record {
        later = omega arith;
        since = λ u c le left. elim (cases_lt (length log) left.0) [
          | inl last ↦ inr (subst (Left c) (take_all left.0 more (omega arith)) left.3)
          | inr earlier ↦ inl (left.0, left.1, earlier, subst (Left c) (take-append-le left.0 log (entry ∷ []) earlier) left.3)
        ];
      }

  wrote_here : (at count : ℕ) (bytes : List ℕ) → Writes at count was (with_entry (Wrote at count bytes))
  wrote_here at count bytes =
      let entry = Wrote at count bytes in
      record {
        time = passes entry;
        reads = λ i lt out. seen_with entry i ∙ over_outside at count i bytes image.seen out;
        crash = λ c now. torn at count image (step image entry) refl refl c (left_with entry c now);
      }

  tore_here : (at count : ℕ) → Writes at count was (with_entry (Tore at count))
  tore_here at count =
      let entry = Tore at count in
      record {
        time = passes entry;
        reads = λ i lt out. seen_with entry i;
        crash = λ c now. torn at count image (step image entry) refl refl c (left_with entry c now);
      }

  not_synced_here : Syncs was (with_entry NotSynced)
  not_synced_here = record { time = passes NotSynced; crash = λ c now. left_with NotSynced c now }

  synced_here : Syncs was (with_entry Synced)
  synced_here = record {
    time = passes Synced;
    crash = λ c now i lt clean. (left_with Synced c now) i lt refl ∙ settled (start first) log (λ k h. refl) i clean;
  }

  is_synced_here : IsSynced was (with_entry Synced)
  is_synced_here = record {
    reads = λ i lt. seen_with Synced i;
    crash = λ c now i lt. (left_with Synced c now) i lt refl ∙ sym (seen_with Synced i);
  }

  written_here : (at : ℕ) (padded bytes : List ℕ) → ((k : ℕ) → k < length bytes → get_or padded k 0 ≡ get_or bytes k 0)
      → IsAt (with_entry (Wrote at (length bytes) padded)).reads at bytes
  written_here at padded bytes same k lt =
      let count = length bytes in
      seen_with (Wrote at count padded) (at + k) ∙ over_at at count padded bytes image.seen k (omega arith) (same k lt)

  -- the same of a list that is the log with one entry more
  module _ (new : List LogEntry) where
    abbrev told : State
    told = state_of first new

    pub wrote : (at count : ℕ) (bytes : List ℕ) → new ≡ log ++ Wrote at count bytes ∷ [] → Writes at count was told
    wrote at count bytes is = subst (λ (l : List LogEntry). Writes at count was (state_of first l)) (sym is) (wrote_here at count bytes)

    pub tore : (at count : ℕ) → new ≡ log ++ Tore at count ∷ [] → Writes at count was told
    tore at count is = subst (λ (l : List LogEntry). Writes at count was (state_of first l)) (sym is) (tore_here at count)

    pub written : (at : ℕ) (padded bytes : List ℕ) → new ≡ log ++ Wrote at (length bytes) padded ∷ []
        → ((k : ℕ) → k < length bytes → get_or padded k 0 ≡ get_or bytes k 0) → IsAt told.reads at bytes
    written at padded bytes is same =
        subst (λ (l : List LogEntry). IsAt (state_of first l).reads at bytes) (sym is) (written_here at padded bytes same)

    pub not_synced : new ≡ log ++ NotSynced ∷ [] → Syncs was told
    not_synced is = subst (λ (l : List LogEntry). Syncs was (state_of first l)) (sym is) not_synced_here

    pub synced : new ≡ log ++ Synced ∷ [] → Syncs was told
    synced is = subst (λ (l : List LogEntry). Syncs was (state_of first l)) (sym is) synced_here

    pub is_synced : new ≡ log ++ Synced ∷ [] → IsSynced was told
    is_synced is = subst (λ (l : List LogEntry). IsSynced was (state_of first l)) (sym is) is_synced_here
