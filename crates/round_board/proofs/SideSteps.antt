-- Each step of a side keeps the rule.
use Rattle.std.proofs.Common.{◌≡◌, ⊎_elim, inl, inr, ℕ, ◌+◌, ◌<◌, ◌≤◌, true, false, get_or, set, Option, Some, None, is_some, sym, refl, ap, ◌∙◌, arith}
use mathlib.Core.Option.{none}
use Rattle.atomic_table.specs.Table.{step, Allows}
use Rattle.lift_base.specs.declared.Side.{Side}
use Rattle.lift_base.specs.declared.Side.TheVariants.{A, B}
use Rattle.round_board.specs.declared.view.Track.{Track}
use Rattle.round_board.specs.declared.view.View.{View}
use Rattle.round_board.specs.declared.view.View.TheVariants.{Acts}
use Rattle.round_board.specs.Tallies.{other, word_after}
use Rattle.round_board.specs.Rule.{known, stands, Round, words_of, Looks, Sound, Ruled}
use Rattle.round_board.specs.Moves.{track_of, begun_track, published_track, seen_track, noted_track, commanded_track, ended_track, acts, begins, publishes, sees, notes, commands, ends, publish_at, seen_at, command_at, done_at}
use Rattle.round_board.proofs.Rounds.{M, no, off, with_track, Steps, acting, opens, on, theirs_of}

-- what a step owes in a sound round where the side did t
abbrev Owes : M → Side → ℕ → Track → ℕ → (ℕ → ℕ) → (ℕ → Track → Track) → (ℕ → M → Type 0) → Type 0
Owes me h p t i g f then = (x : Round) → Sound x → x.track h ≡ t → p ≤ x.lead.tick → (known x.lead h).made ≡ true
    → let n : ℕ = get_or (words_of x) i 0 in
    Steps x h i (g n) (f n (x.track h)) × then n (acts (f n) me.0, me.1)

words_begun : (x : Round) (h : Side) → set (words_of x) 1 x.lead.tick ≡ words_of (with_track x h (begun_track (x.track h)))
words_begun x A = refl
words_begun x B = refl

words_published : (x : Round) (h : Side) (n : ℕ)
    → set (words_of x) (publish_at h) n ≡ words_of (with_track x h (published_track n (x.track h)))
words_published x A n = refl
words_published x B n = refl

words_seen : (x : Round) (h : Side) (n : ℕ) → n ≡ get_or (words_of x) (publish_at (other h)) 0
    → set (words_of x) (publish_at (other h)) n ≡ words_of (with_track x h (seen_track n (x.track h)))
words_seen x A n e = ap (λ (z : ℕ). set (words_of x) 6 z) e
words_seen x B n e = ap (λ (z : ℕ). set (words_of x) 2 z) e

found_publish : (x : Round) (h : Side) → get_or (words_of x) (publish_at h) 0 ≡ stands (x.track h)
found_publish x A = refl
found_publish x B = refl

words_noted : (x : Round) (h : Side) (n : ℕ) → set (words_of x) (seen_at h) n ≡ words_of (with_track x h (noted_track n (x.track h)))
words_noted x A n = refl
words_noted x B n = refl

words_commanded : (x : Round) (h : Side) (n : ℕ)
    → set (words_of x) (command_at h) n ≡ words_of (with_track x h (commanded_track n (x.track h)))
words_commanded x A n = refl
words_commanded x B n = refl

words_ended : (x : Round) (h : Side) (n : ℕ) → n ≡ (x.track h).tally.tick
    → set (words_of x) (done_at h) n ≡ words_of (with_track x h (ended_track (x.track h)))
words_ended x A n e = ap (λ (z : ℕ). set (words_of x) 5 z) e
words_ended x B n e = ap (λ (z : ℕ). set (words_of x) 9 z) e

-- a side that has begun no look is asked nothing of it, and what the other saw stays
begins_theirs : (n : ℕ) (u v : Track) → v.tally.tick < n → Looks n u v → Looks n u (begun_track v)
begins_theirs n u v late l = record {
  saw = λ e f. ⊎_elim (λ (z : u.loaded ≡ stands v). inl z)
      (λ (z : (v.tally.tick ≡ u.tally.tick) × (u.loaded ≡ v.tally.stood.publish)).
      let q : v.tally.tick ≡ u.tally.tick = z.0 in absurd (omega arith)) (l.saw e f);
  crossed = λ e f g k. off k;
}

-- loads the tick
pub begins_moves : (slots id : ℕ) (me : M) (h : Side) (p : ℕ) (t : Track) → me.0 ≡ Acts h p t → p ≡ t.tally.tick + 1
    → Allows Ruled slots id me 1 (λ n. n) (begins (step slots 1 0 0 none) me)
begins_moves slots id me h p t is next = acting slots id me 1 (λ n. n) (λ _. begun_track) (begins (step slots 1 0 0 none) me) h p t is does
  where
    does : Owes me h p t 1 (λ n. n) (λ _. begun_track) (begins (step slots 1 0 0 none) me)
    does x a same le is' =
        let v : Track = x.track h in
        let o = a.sides h in
        let by : v.tally.ended ≤ v.tally.tick = o.done_by in
        let near : x.lead.tick ≤ v.tally.ended + 1 = o.near in
        let tick : v.tally.tick ≡ t.tally.tick = ap (λ (z : Track). z.tally.tick) same in
        let late : x.lead.tick ≡ v.tally.tick + 1 = omega arith in (
          record {
            words = words_begun x h;
            later = omega arith;
            open_ = λ e. absurd (omega arith);
            ok = record {
              done_by = omega arith;
              begun_by = omega arith;
              near = near;
              told = λ e. let z : v.tally.ended ≡ x.lead.tick = (o.told e).1 in absurd (omega arith);
              rested = λ ne. absurd (ne (sym late));
              kept = λ e. o.rested (λ e. absurd (omega arith));
              unmade = λ e. no (sym is' ∙ e);
              unbegun = λ e. absurd (omega arith);
              led = λ e. off e;
            };
            mine = record { saw = λ e f. off f; crossed = λ e f g. off g };
            theirs = begins_theirs x.lead.tick (x.track (other h)) v (omega arith) (theirs_of x a h);
          },
          (late ∙ ap (λ (z : ℕ). z + 1) (tick ∙ sym (ap (λ (z : View). (track_of z).tally.tick) is)), refl),
        )

-- stores done
pub ends_moves : (slots id : ℕ) (me : M) (h : Side) (p n : ℕ) (t : Track) → me.0 ≡ Acts h p t → t.tally.ended < t.tally.tick
    → n ≡ t.tally.tick → Allows Ruled slots id me (done_at h) (λ _. n) (λ _. ends (step slots (done_at h) n 0 none) me n)
ends_moves slots id me h p n t is open_ value =
    acting slots id me (done_at h) (λ _. n) (λ _. ended_track) (λ _. ends (step slots (done_at h) n 0 none) me n) h p t is does
  where
    does : Owes me h p t (done_at h) (λ _. n) (λ _. ended_track) (λ _. ends (step slots (done_at h) n 0 none) me n)
    does x a same le is' =
        let v : Track = x.track h in
        let k = a.sides h in
        let o = opens x a h t same is' open_ in
        let at : v.tally.tick ≡ x.lead.tick = o.at in
        let b : v.tally.ended < v.tally.tick = o.begun in
        let m : Looks x.lead.tick v (x.track (other h)) = a.looks h in
        let l : Looks x.lead.tick (x.track (other h)) v = theirs_of x a h in (
          record {
            words = words_ended x h n (value ∙ sym (ap (λ (z : Track). z.tally.tick) same));
            later = omega arith;
            open_ = λ _. b;
            ok = record {
              done_by = omega arith;
              begun_by = omega arith;
              near = omega arith;
              told = λ e. let z : v.tally.ended ≡ x.lead.tick = (k.told e).1 in absurd (omega arith);
              rested = λ ne. absurd (ne at);
              kept = λ e. k.kept e;
              unmade = λ e. no (sym is' ∙ e);
              unbegun = λ e. absurd (omega arith);
              led = k.led;
            };
            mine = record { saw = m.saw; crossed = m.crossed };
            theirs = record { saw = l.saw; crossed = l.crossed };
          },
          refl,
        )

-- a word that was not stored stands as it stood
stood_word : (o : Option ℕ) (w : ℕ) → is_some o ≡ false → word_after o w ≡ w
stood_word None w e = refl
stood_word (Some n) w e = no e

-- what the other saw as it stood is now what stood before; and a side that has not published has not looked behind it
publishes_theirs : (n m : ℕ) (u v : Track) → v.tally.tick ≡ n → is_some v.tally.publish ≡ false → (v.tally.published_first ≡ true → ⊥)
    → Looks n u v → Looks n u (published_track m v)
publishes_theirs n m u v at first behind l = record {
  saw = λ e f. inr (
    at ∙ sym e,
    ⊎_elim (λ (z : u.loaded ≡ stands v). z ∙ stood_word v.tally.publish v.tally.stood.publish first)
        (λ (z : (v.tally.tick ≡ u.tally.tick) × (u.loaded ≡ v.tally.stood.publish)). z.1) (l.saw e f),
  );
  crossed = λ e f g w. absurd (behind w);
}

-- stores publish
pub publishes_moves : (slots id : ℕ) (me : M) (h : Side) (p n : ℕ) (t : Track) → me.0 ≡ Acts h p t → t.tally.ended < t.tally.tick
    → is_some t.tally.publish ≡ false
    → Allows Ruled slots id me (publish_at h) (λ _. n) (λ _. publishes (step slots (publish_at h) n 0 none) me n)
publishes_moves slots id me h p n t is open_ once =
    acting slots id me (publish_at h) (λ _. n) (λ _. published_track n)
    (λ _. publishes (step slots (publish_at h) n 0 none) me n) h p t is does
  where
    does : Owes me h p t (publish_at h) (λ _. n) (λ _. published_track n) (λ _. publishes (step slots (publish_at h) n 0 none) me n)
    does x a same le is' =
        let v : Track = x.track h in
        let k = a.sides h in
        let o = opens x a h t same is' open_ in
        let b : v.tally.ended < v.tally.tick = o.begun in
        let first : is_some v.tally.publish ≡ false = ap (λ (z : Track). is_some z.tally.publish) same ∙ once in
        let behind : v.tally.published_first ≡ true → ⊥ = λ e. no (sym (k.led e).0 ∙ first) in
        let m : Looks x.lead.tick v (x.track (other h)) = a.looks h in (
          record {
            words = words_published x h n;
            later = omega arith;
            open_ = λ _. b;
            ok = on x a h t (published_track n v) o refl refl refl (λ q e. (refl, (q e).1));
            mine = record { saw = m.saw; crossed = λ e f g. absurd (behind g) };
            theirs = publishes_theirs x.lead.tick n (x.track (other h)) v o.at first behind (theirs_of x a h);
          },
          refl,
        )

-- loads the other's publish
pub sees_moves : (slots id : ℕ) (me : M) (h : Side) (p : ℕ) (t : Track) → me.0 ≡ Acts h p t → t.tally.ended < t.tally.tick
    → Allows Ruled slots id me (publish_at (other h)) (λ n. n) (sees (step slots (publish_at (other h)) 0 0 none) me)
sees_moves slots id me h p t is open_ =
    acting slots id me (publish_at (other h)) (λ n. n) seen_track (sees (step slots (publish_at (other h)) 0 0 none) me) h p t is does
  where
    does : Owes me h p t (publish_at (other h)) (λ n. n) seen_track (sees (step slots (publish_at (other h)) 0 0 none) me)
    does x a same le is' =
        let v : Track = x.track h in
        let u : Track = x.track (other h) in
        let n : ℕ = get_or (words_of x) (publish_at (other h)) 0 in
        let o = opens x a h t same is' open_ in
        let b : v.tally.ended < v.tally.tick = o.begun in
        let found : n ≡ stands u = found_publish x (other h) in
        let l : Looks x.lead.tick u v = theirs_of x a h in (
          record {
            words = words_seen x h n refl;
            later = omega arith;
            open_ = λ _. b;
            ok = on x a h t (seen_track n v) o refl refl refl (λ q e. (e, refl));
            mine = record { saw = λ e f. inl found; crossed = λ e f g w ne. absurd (ne found) };
            theirs = record { saw = l.saw; crossed = λ e f g w ne. found };
          },
          refl,
        )

-- stores seen
pub notes_moves : (slots id : ℕ) (me : M) (h : Side) (p n : ℕ) (t : Track) → me.0 ≡ Acts h p t → t.tally.ended < t.tally.tick
    → Allows Ruled slots id me (seen_at h) (λ _. n) (λ _. notes (step slots (seen_at h) n 0 none) me n)
notes_moves slots id me h p n t is open_ =
    acting slots id me (seen_at h) (λ _. n) (λ _. noted_track n) (λ _. notes (step slots (seen_at h) n 0 none) me n) h p t is does
  where
    does : Owes me h p t (seen_at h) (λ _. n) (λ _. noted_track n) (λ _. notes (step slots (seen_at h) n 0 none) me n)
    does x a same le is' =
        let v : Track = x.track h in
        let o = opens x a h t same is' open_ in
        let b : v.tally.ended < v.tally.tick = o.begun in
        let m : Looks x.lead.tick v (x.track (other h)) = a.looks h in
        let l : Looks x.lead.tick (x.track (other h)) v = theirs_of x a h in (
          record {
            words = words_noted x h n;
            later = omega arith;
            open_ = λ _. b;
            ok = on x a h t (noted_track n v) o refl refl refl (λ q e. q e);
            mine = record { saw = m.saw; crossed = m.crossed };
            theirs = record { saw = l.saw; crossed = l.crossed };
          },
          refl,
        )

-- stores command
pub commands_moves : (slots id : ℕ) (me : M) (h : Side) (p n : ℕ) (t : Track) → me.0 ≡ Acts h p t → t.tally.ended < t.tally.tick
    → Allows Ruled slots id me (command_at h) (λ _. n) (λ _. commands (step slots (command_at h) n 0 none) me n)
commands_moves slots id me h p n t is open_ =
    acting slots id me (command_at h) (λ _. n) (λ _. commanded_track n)
    (λ _. commands (step slots (command_at h) n 0 none) me n) h p t is does
  where
    does : Owes me h p t (command_at h) (λ _. n) (λ _. commanded_track n) (λ _. commands (step slots (command_at h) n 0 none) me n)
    does x a same le is' =
        let v : Track = x.track h in
        let o = opens x a h t same is' open_ in
        let b : v.tally.ended < v.tally.tick = o.begun in
        let m : Looks x.lead.tick v (x.track (other h)) = a.looks h in
        let l : Looks x.lead.tick (x.track (other h)) v = theirs_of x a h in (
          record {
            words = words_commanded x h n;
            later = omega arith;
            open_ = λ _. b;
            ok = on x a h t (commanded_track n v) o refl refl refl (λ q e. q e);
            mine = record { saw = m.saw; crossed = m.crossed };
            theirs = record { saw = l.saw; crossed = l.crossed };
          },
          refl,
        )
