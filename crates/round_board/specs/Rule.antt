-- The rule of the board. One state of the round stands behind all words and views.
-- Each word is a part of it, and each view says something of it.
use Rattle.std.specs.Prelude.{◌≡◌, ◌≢◌, ◌⊎◌, ℕ, ◌+◌, ◌≤◌, true, false, is_some, List, [], ◌∷◌}
use mathlib.Core.Option.{some}
use lib.ListN.{get_elem?}
use Rattle.atomic_table.specs.Table.{State}
use Rattle.lift_base.specs.declared.Side.{Side}
use Rattle.lift_base.specs.declared.Side.TheVariants.{A, B}
use Rattle.round_board.specs.declared.view.Track.{Track}
use Rattle.round_board.specs.declared.view.Known.{Known}
use Rattle.round_board.specs.declared.view.Lead.{Lead}
use Rattle.round_board.specs.declared.view.View.{View}
use Rattle.round_board.specs.declared.view.View.TheVariants.{Leads, Acts, Passed, Ended, Spent}
use Rattle.round_board.specs.Tallies.{other, idle, words_left}

abbrev pub blank : Track
blank = record { tally = idle; looked = false; loaded = 0 }

-- what the conductor knows of a side
abbrev pub known : Lead → Side → Known
known l A = l.a
known l B = l.b

-- the publish word of a side as it stands
abbrev pub stands : Track → ℕ
stands t = (words_left t.tally).publish

-- the state of the round: what the conductor knows, what each side did, and which seat is a side's
pub record Round : Type 0 where
  pub lead : Lead
  pub track : Side → Track
  pub seat : Side → ℕ

-- the ten words: the spare one, the tick, and publish, seen, command and done of each side
abbrev pub words_of : Round → List ℕ
words_of x =
    let a = words_left (x.track A).tally in let b = words_left (x.track B).tally in
    0 ∷ x.lead.tick
    ∷ a.publish ∷ a.seen ∷ a.command ∷ (x.track A).tally.ended
    ∷ b.publish ∷ b.seen ∷ b.command ∷ (x.track B).tally.ended ∷ []

-- a side in the tick, of which the conductor knows k
pub record SideOk (tick : ℕ) (k : Known) (t : Track) : Type 0 where
  pub done_by : t.tally.ended ≤ t.tally.tick
  pub begun_by : t.tally.tick ≤ tick
  pub near : tick ≤ t.tally.ended + 1
  pub told : k.told ≡ true → (t ≡ k.now) × (t.tally.ended ≡ tick)
  pub rested : t.tally.tick ≢ tick → words_left t.tally ≡ k.was
  pub kept : t.tally.tick ≡ tick → t.tally.stood ≡ k.was
  pub unmade : k.made ≡ false → t ≡ blank
  pub unbegun : t.tally.tick ≡ 0 → t ≡ blank
  pub led : t.tally.published_first ≡ true → (is_some t.tally.publish ≡ true) × (t.looked ≡ true)

-- what t loaded is the publish word of u, as it stands or as it stood before the tick
abbrev pub Saw : Track → Track → Type 0
Saw t u = (t.loaded ≡ stands u) ⊎ ((u.tally.tick ≡ t.tally.tick) × (t.loaded ≡ u.tally.stood.publish))

-- what t loaded in the tick from u
pub record Looks (tick : ℕ) (t u : Track) : Type 0 where
  pub saw : t.tally.tick ≡ tick → t.looked ≡ true → Saw t u
  pub crossed : t.tally.tick ≡ tick → u.tally.tick ≡ tick → t.tally.published_first ≡ true → u.tally.published_first ≡ true
      → t.loaded ≢ stands u → u.loaded ≡ stands t

-- what the view of the seat j says of the round
abbrev pub Knows : Round → ℕ → View → Type 0
Knows x j (Leads l) = (j ≡ 0) × (l ≡ x.lead)
Knows x j (Acts h p t) = (x.seat h ≡ j) × (t ≡ x.track h) × (p ≤ x.lead.tick) × ((known x.lead h).made ≡ true)
Knows x j (Passed h p) = p ≤ x.lead.tick
Knows x j (Ended h t) = (t.tally.ended ≡ t.tally.tick) × (t.tally.tick ≤ (x.track h).tally.tick)
    × (t.tally.tick ≡ (x.track h).tally.tick → t ≡ x.track h)
Knows x j Spent = Unit {0}

-- a state that a round can be in
pub record Sound (x : Round) : Type 0 where
  pub sides : (h : Side) → SideOk x.lead.tick (known x.lead h) (x.track h)
  pub looks : (h : Side) → Looks x.lead.tick (x.track h) (x.track (other h))

-- the rule: some sound round stands behind the words and the views
pub record Ruled (s : State (Unit {0}) View) : Type 0 where
  pub round : Round
  pub words : s.words ≡ words_of round
  pub sound : Sound round
  pub views : (j : ℕ) (v : View) → get_elem? s.views j ≡ some v → Knows round j v
