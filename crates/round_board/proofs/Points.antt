-- The points of the rule, each from the round that stands behind the words and the views.
use Rattle.std.proofs.Common.{◌≡◌, inl, inr, ⊎_elim, ℕ, ◌+◌, ◌≤◌, true, List, sym, refl, ap, ◌∙◌, subst, arith}
use Rattle.std.specs.Prelude.{slice_index}
use Rattle.lift_base.specs.declared.Side.{Side}
use Rattle.lift_base.specs.declared.Side.TheVariants.{A, B}
use Rattle.round_board.specs.declared.words.SideWords.{SideWords}
use Rattle.round_board.specs.declared.view.Track.{Track}
use Rattle.round_board.specs.declared.view.Lead.{Lead}
use Rattle.round_board.specs.declared.view.View.TheVariants.{Leads, Acts, Passed, Ended}
use Rattle.round_board.specs.Tallies.{other, words_after, words_left}
use Rattle.round_board.specs.Rule.{known, stands, Round, words_of, Looks, Knows, Ruled}
use Rattle.round_board.specs.Moves.{done_at}
use Rattle.round_board.specs.Points.{S, Sits, tick_of, words_in, side_words, done_of, OneViewOfEachRole, SeatsWereMade, WordsAreLastStores, TicksAreNear, NotesAreTheirOwners, ReceiptsHaveEnded, DoneMeansEnded, TakenWordsStand, KeptWordsStand, Tells, LoadedIsThePeers, OneOfTwoLoads}

-- what the words are in the round
tick_word : (s : S) (r : Ruled s) → tick_of s ≡ r.round.lead.tick
tick_word s r = ap (λ (ws : List ℕ). slice_index ws 1) r.words

round_words : (x : Round) (h : Side) → words_in (words_of x) h ≡ words_left (x.track h).tally
round_words x A = refl
round_words x B = refl

round_done : (x : Round) (h : Side) → slice_index (words_of x) (done_at h) ≡ (x.track h).tally.ended
round_done x A = refl
round_done x B = refl

words_are : (s : S) (r : Ruled s) (h : Side) → side_words s h ≡ words_left (r.round.track h).tally
words_are s r h = ap (λ (ws : List ℕ). words_in ws h) r.words ∙ round_words r.round h

done_is : (s : S) (r : Ruled s) (h : Side) → done_of s h ≡ (r.round.track h).tally.ended
done_is s r h = ap (λ (ws : List ℕ). slice_index ws (done_at h)) r.words ∙ round_done r.round h

-- what the views say of the round
leads : (s : S) (r : Ruled s) (i : ℕ) (l : Lead) → Sits s i (Leads l) → (i ≡ 0) × (l ≡ r.round.lead)
leads s r i l at = r.views i (Leads l) at

acts : (s : S) (r : Ruled s) (j : ℕ) (h : Side) (p : ℕ) (t : Track) → Sits s j (Acts h p t) → Knows r.round j (Acts h p t)
acts s r j h p t at = r.views j (Acts h p t) at

pub one_view : (s : S) → Ruled s → OneViewOfEachRole s
one_view s r = (
  λ i j l m a b. (leads s r i l a).0 ∙ sym (leads s r j m b).0,
  λ i j h p q t u a b. sym (acts s r i h p t a).0 ∙ (acts s r j h q u b).0,
)

pub made_before : (s : S) → Ruled s → SeatsWereMade s
made_before s r i j l h p t a b = ap (λ (z : Lead). (known z h).made) (leads s r i l a).1 ∙ (acts s r j h p t b).3

pub last_stores : (s : S) → Ruled s → WordsAreLastStores s
last_stores s r = (
  ap (λ (ws : List ℕ). slice_index ws 0) r.words,
  λ i l a. tick_word s r ∙ ap (λ (z : Lead). z.tick) (sym (leads s r i l a).1),
  λ j h p t b. let is : r.round.track h ≡ t = sym (acts s r j h p t b).1 in
      (words_are s r h ∙ ap (λ (z : Track). words_left z.tally) is, done_is s r h ∙ ap (λ (z : Track). z.tally.ended) is),
  λ i l h a new. let is = (r.sound.sides h).unmade (ap (λ (z : Lead). (known z h).made) (sym (leads s r i l a).1) ∙ new) in
      (words_are s r h ∙ ap (λ (z : Track). words_left z.tally) is, done_is s r h ∙ ap (λ (z : Track). z.tally.ended) is),
)

pub near : (s : S) → Ruled s → TicksAreNear s
near s r = (
  λ h. let o : r.round.lead.tick ≤ (r.round.track h).tally.ended + 1 = (r.sound.sides h).near in
      let d : done_of s h ≡ (r.round.track h).tally.ended = done_is s r h in
      let e : tick_of s ≡ r.round.lead.tick = tick_word s r in omega arith,
  λ j h p t b. let o : (r.round.track h).tally.tick ≤ r.round.lead.tick = (r.sound.sides h).begun_by in
      let is : t.tally.tick ≡ (r.round.track h).tally.tick = ap (λ (z : Track). z.tally.tick) (acts s r j h p t b).1 in
      let e : tick_of s ≡ r.round.lead.tick = tick_word s r in omega arith,
)

pub owners_notes : (s : S) → Ruled s → NotesAreTheirOwners s
owners_notes s r = (
  λ i j l h p a b. subst (λ (z : Lead). p ≤ z.tick) (sym (leads s r i l a).1) (r.views j (Passed h p) b),
  λ i j h p t u a b. let q : Knows r.round j (Ended h u) = r.views j (Ended h u) b in
      subst (λ (z : Track). (u.tally.tick ≤ z.tally.tick) × (u.tally.tick ≡ z.tally.tick → u ≡ z)) (sym (acts s r i h p t a).1) (q.1, q.2),
)

-- a receipt of the tick says what the side did
receipt_is : (s : S) (r : Ruled s) (j : ℕ) (h : Side) (u : Track) → Sits s j (Ended h u) → u.tally.tick ≡ tick_of s → u ≡ r.round.track h
receipt_is s r j h u b e =
    let q : Knows r.round j (Ended h u) = r.views j (Ended h u) b in
    let le : u.tally.tick ≤ (r.round.track h).tally.tick = q.1 in
    let by : (r.round.track h).tally.tick ≤ r.round.lead.tick = (r.sound.sides h).begun_by in
    let w : tick_of s ≡ r.round.lead.tick = tick_word s r in q.2 (omega arith)

-- so does one that was taken in
taken_is : (s : S) (r : Ruled s) (i : ℕ) (l : Lead) (h : Side) → Sits s i (Leads l) → (known l h).told ≡ true
    → ((known l h).now ≡ r.round.track h) × ((known l h).now.tally.ended ≡ l.tick)
taken_is s r i l h a told =
    let is : l ≡ r.round.lead = (leads s r i l a).1 in
    let o = (r.sound.sides h).told (ap (λ (z : Lead). (known z h).told) (sym is) ∙ told) in
    let now : (known l h).now ≡ r.round.track h = ap (λ (z : Lead). (known z h).now) is ∙ sym o.0 in
    (now, ap (λ (z : Track). z.tally.ended) now ∙ (o.1 ∙ ap (λ (z : Lead). z.tick) (sym is)))

pub ended_receipts : (s : S) → Ruled s → ReceiptsHaveEnded s
ended_receipts s r = (
  λ j h u b. let q : Knows r.round j (Ended h u) = r.views j (Ended h u) b in q.0,
  λ i j h p t u a b e. (acts s r i h p t a).1 ∙ sym (receipt_is s r j h u b e),
  λ i l h a told. (taken_is s r i l h a told).1,
  λ i j l h p t a b told. (acts s r j h p t b).1 ∙ sym (taken_is s r i l h a told).0,
)

pub done_ended : (s : S) → Ruled s → DoneMeansEnded s
done_ended s r j h p t b e =
    let is = acts s r j h p t b in
    let tick : t.tally.tick ≡ (r.round.track h).tally.tick = ap (λ (z : Track). z.tally.tick) is.1 in
    let end : t.tally.ended ≡ (r.round.track h).tally.ended = ap (λ (z : Track). z.tally.ended) is.1 in
    let d : done_of s h ≡ (r.round.track h).tally.ended = done_is s r h in
    let w : tick_of s ≡ r.round.lead.tick = tick_word s r in
    let o : (r.round.track h).tally.ended ≤ (r.round.track h).tally.tick = (r.sound.sides h).done_by in
    let by : (r.round.track h).tally.tick ≤ r.round.lead.tick = (r.sound.sides h).begun_by in (omega arith, omega arith)

pub taken_stand : (s : S) → Ruled s → TakenWordsStand s
taken_stand s r = (
  λ i l h a told. words_are s r h ∙ ap (λ (z : Track). words_left z.tally) (sym (taken_is s r i l h a told).0),
  λ h e. words_are s r h ∙ ap (λ (z : Track). words_left z.tally) ((r.sound.sides h).unbegun (none h e)),
)
  where
    none : (h : Side) → tick_of s ≡ 0 → (r.round.track h).tally.tick ≡ 0
    none h e =
        let by : (r.round.track h).tally.tick ≤ r.round.lead.tick = (r.sound.sides h).begun_by in
        let w : tick_of s ≡ r.round.lead.tick = tick_word s r in omega arith

pub kept_stand : (s : S) → Ruled s → KeptWordsStand s
kept_stand s r i j l h p t a b =
    let lead : l ≡ r.round.lead = (leads s r i l a).1 in
    let was : (known r.round.lead h).was ≡ (known l h).was = ap (λ (z : Lead). (known z h).was) (sym lead) in
    let is : t ≡ r.round.track h = (acts s r j h p t b).1 in
    let tick : t.tally.tick ≡ (r.round.track h).tally.tick = ap (λ (z : Track). z.tally.tick) is in
    let w : tick_of s ≡ r.round.lead.tick = tick_word s r in
    let o = r.sound.sides h in
    let stood : t.tally.tick ≡ tick_of s → t.tally.stood ≡ (known l h).was =
    λ e. ap (λ (z : Track). z.tally.stood) is ∙ (o.kept (sym tick ∙ (e ∙ w)) ∙ was) in
    let left : side_words s h ≡ words_left t.tally = words_are s r h ∙ ap (λ (z : Track). words_left z.tally) (sym is) in (
      λ ne. words_are s r h ∙ (o.rested (λ e. ne (tick ∙ (e ∙ sym w))) ∙ was),
      λ e. (left ∙ ap (λ (z : SideWords). words_after t.tally z) (stood e), stood e),
    )

-- what is told of a side is what it did
tells_is : (s : S) (r : Ruled s) (h : Side) (t : Track) → Tells s h t → t ≡ r.round.track h
tells_is s r h t = ⊎_elim (λ (z : (j : ℕ) × (p : ℕ) × Sits s j (Acts h p t)). (acts s r z.0 h z.1 t z.2).1)
    (⊎_elim (λ (z : (j : ℕ) × Sits s j (Ended h t) × (t.tally.tick ≡ tick_of s)). receipt_is s r z.0 h t z.1 z.2)
    (λ (z : (j : ℕ) × (l : Lead) × Sits s j (Leads l) × ((known l h).told ≡ true) × ((known l h).now ≡ t)).
    sym z.4 ∙ (taken_is s r z.0 z.1 h z.2 z.3).0))

-- what the side did meets the rule on looks
looks_at : (s : S) (r : Ruled s) (h : Side) (t u : Track) → Tells s h t → Tells s (other h) u → Looks (tick_of s) t u
looks_at s r h t u a b =
    subst (λ (z : ℕ × Track × Track). Looks z.0 z.1 z.2)
    (λ i. (sym (tick_word s r) i, sym (tells_is s r h t a) i, sym (tells_is s r (other h) u b) i)) (r.sound.looks h)

stands_as : (s : S) (r : Ruled s) (h : Side) (t : Track) → Tells s h t → stands t ≡ (side_words s h).publish
stands_as s r h t a = ap (λ (z : Track). stands z) (tells_is s r h t a) ∙ ap (λ (z : SideWords). z.publish) (sym (words_are s r h))

pub loaded_peers : (s : S) → Ruled s → LoadedIsThePeers s
loaded_peers s r h t u a b at looked =
    ⊎_elim (λ (z : t.loaded ≡ stands u). inl (z ∙ stands_as s r (other h) u b))
    (λ (z : (u.tally.tick ≡ t.tally.tick) × (t.loaded ≡ u.tally.stood.publish)). inr (z.0 ∙ at, z.1))
    ((looks_at s r h t u a b).saw at looked)

pub one_of_two : (s : S) → Ruled s → OneOfTwoLoads s
one_of_two s r h t u a b at at' first first' ne =
    (looks_at s r h t u a b).crossed at at' first first' (λ e. ne (e ∙ stands_as s r (other h) u b)) ∙ stands_as s r h t a
