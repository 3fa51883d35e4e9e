-- What the rule of the board says of the words and the views, point by point.
use Rattle.std.specs.Prelude.{◌≡◌, ◌≢◌, ◌⊎◌, ℕ, ◌+◌, ◌≤◌, true, false, List, slice_index}
use mathlib.Core.Option.{some}
use lib.ListN.{get_elem?}
use Rattle.atomic_table.specs.Table.{State}
use Rattle.lift_base.specs.declared.Side.{Side}
use Rattle.round_board.specs.declared.words.SideWords.{SideWords}
use Rattle.round_board.specs.declared.view.Track.{Track}
use Rattle.round_board.specs.declared.view.Lead.{Lead}
use Rattle.round_board.specs.declared.view.View.{View}
use Rattle.round_board.specs.declared.view.View.TheVariants.{Leads, Acts, Passed, Ended}
use Rattle.round_board.specs.Tallies.{other, no_words, words_after, words_left}
use Rattle.round_board.specs.Rule.{known}
use Rattle.round_board.specs.Moves.{publish_at, seen_at, command_at, done_at}

abbrev pub S : Type 0
S = State (Unit {0}) View

-- the view of the seat j
abbrev pub Sits : S → ℕ → View → Type 0
Sits s j v = get_elem? s.views j ≡ some v

-- the tick word
abbrev pub tick_of : S → ℕ
tick_of s = slice_index s.words 1

-- the words of a side among the ten
abbrev pub words_in : List ℕ → Side → SideWords
words_in ws h =
    record { publish = slice_index ws (publish_at h); seen = slice_index ws (seen_at h); command = slice_index ws (command_at h) }

-- the words of a side as they stand
abbrev pub side_words : S → Side → SideWords
side_words s h = words_in s.words h

-- the done word of a side
abbrev pub done_of : S → Side → ℕ
done_of s h = slice_index s.words (done_at h)

-- one seat at most is the conductor's, and one each side's
abbrev pub OneViewOfEachRole : S → Type 0
OneViewOfEachRole s =
    ((i j : ℕ) (l m : Lead) → Sits s i (Leads l) → Sits s j (Leads m) → i ≡ j)
    × ((i j : ℕ) (h : Side) (p q : ℕ) (t u : Track) → Sits s i (Acts h p t) → Sits s j (Acts h q u) → i ≡ j)

-- a side has a seat only where the conductor has made it
abbrev pub SeatsWereMade : S → Type 0
SeatsWereMade s = (i j : ℕ) (l : Lead) (h : Side) (p : ℕ) (t : Track) → Sits s i (Leads l) → Sits s j (Acts h p t) → (known l h).made ≡ true

-- each word is the last store of its owner; where a side has no seat yet, its words are 0, and so is the spare word
abbrev pub WordsAreLastStores : S → Type 0
WordsAreLastStores s =
    (slice_index s.words 0 ≡ 0)
    × ((i : ℕ) (l : Lead) → Sits s i (Leads l) → tick_of s ≡ l.tick)
    × ((j : ℕ) (h : Side) (p : ℕ) (t : Track) → Sits s j (Acts h p t)
    → (side_words s h ≡ words_left t.tally) × (done_of s h ≡ t.tally.ended))
    × ((i : ℕ) (l : Lead) (h : Side) → Sits s i (Leads l) → (known l h).made ≡ false → (side_words s h ≡ no_words) × (done_of s h ≡ 0))

-- the tick is at most one above each done word, and a side's tick is at most the tick
abbrev pub TicksAreNear : S → Type 0
TicksAreNear s =
    ((h : Side) → tick_of s ≤ done_of s h + 1)
    × ((j : ℕ) (h : Side) (p : ℕ) (t : Track) → Sits s j (Acts h p t) → t.tally.tick ≤ tick_of s)

-- a pass is of no later tick than the conductor's
-- a receipt is of no later tick than its side's, and where it is of the same, it says what the side did
abbrev pub NotesAreTheirOwners : S → Type 0
NotesAreTheirOwners s =
    ((i j : ℕ) (l : Lead) (h : Side) (p : ℕ) → Sits s i (Leads l) → Sits s j (Passed h p) → p ≤ l.tick)
    × ((i j : ℕ) (h : Side) (p : ℕ) (t u : Track) → Sits s i (Acts h p t) → Sits s j (Ended h u)
    → (u.tally.tick ≤ t.tally.tick) × (u.tally.tick ≡ t.tally.tick → u ≡ t))

-- a receipt has ended its tick, as a note and as taken in; where that is the tick, the side has ended it too, with the same words
abbrev pub ReceiptsHaveEnded : S → Type 0
ReceiptsHaveEnded s =
    ((j : ℕ) (h : Side) (u : Track) → Sits s j (Ended h u) → u.tally.ended ≡ u.tally.tick)
    × ((i j : ℕ) (h : Side) (p : ℕ) (t u : Track) → Sits s i (Acts h p t) → Sits s j (Ended h u) → u.tally.tick ≡ tick_of s → t ≡ u)
    × ((i : ℕ) (l : Lead) (h : Side) → Sits s i (Leads l) → (known l h).told ≡ true → (known l h).now.tally.ended ≡ l.tick)
    × ((i j : ℕ) (l : Lead) (h : Side) (p : ℕ) (t : Track) → Sits s i (Leads l) → Sits s j (Acts h p t)
    → (known l h).told ≡ true → t ≡ (known l h).now)

-- where done is the tick, the side has ended it
abbrev pub DoneMeansEnded : S → Type 0
DoneMeansEnded s = (j : ℕ) (h : Side) (p : ℕ) (t : Track) → Sits s j (Acts h p t) → done_of s h ≡ tick_of s
    → (t.tally.tick ≡ tick_of s) × (t.tally.ended ≡ tick_of s)

-- once a receipt of the tick is taken, the side's words stand as it says; before the first tick they are 0
abbrev pub TakenWordsStand : S → Type 0
TakenWordsStand s =
    ((i : ℕ) (l : Lead) (h : Side) → Sits s i (Leads l) → (known l h).told ≡ true → side_words s h ≡ words_left (known l h).now.tally)
    × ((h : Side) → tick_of s ≡ 0 → side_words s h ≡ no_words)

-- the words that the conductor kept at the raise stand, but for those that the side has stored in the tick
-- they are those that stood before the tick in the side's view
abbrev pub KeptWordsStand : S → Type 0
KeptWordsStand s = (i j : ℕ) (l : Lead) (h : Side) (p : ℕ) (t : Track) → Sits s i (Leads l) → Sits s j (Acts h p t)
    → let was = (known l h).was in
    (t.tally.tick ≢ tick_of s → side_words s h ≡ was)
    × (t.tally.tick ≡ tick_of s → (side_words s h ≡ words_after t.tally was) × (t.tally.stood ≡ was))

-- t is what a side did, by its own view, by a receipt of the tick, or by one that was taken in
abbrev pub Tells : S → Side → Track → Type 0
Tells s h t =
    ((j : ℕ) × (p : ℕ) × Sits s j (Acts h p t))
    ⊎ (((j : ℕ) × Sits s j (Ended h t) × (t.tally.tick ≡ tick_of s))
    ⊎ ((j : ℕ) × (l : Lead) × Sits s j (Leads l) × ((known l h).told ≡ true) × ((known l h).now ≡ t)))

-- what was loaded in the tick is the other's publish word, as it stands or as it stood before the other's store
abbrev pub LoadedIsThePeers : S → Type 0
LoadedIsThePeers s = (h : Side) (t u : Track) → Tells s h t → Tells s (other h) u → t.tally.tick ≡ tick_of s → t.looked ≡ true
    → (t.loaded ≡ (side_words s (other h)).publish) ⊎ ((u.tally.tick ≡ tick_of s) × (t.loaded ≡ u.tally.stood.publish))

-- of two that published before they looked, where the one did not load the other's word as it stands,
-- the other loaded its word as it stands
abbrev pub OneOfTwoLoads : S → Type 0
OneOfTwoLoads s = (h : Side) (t u : Track) → Tells s h t → Tells s (other h) u → t.tally.tick ≡ tick_of s → u.tally.tick ≡ tick_of s
    → t.tally.published_first ≡ true → u.tally.published_first ≡ true
    → t.loaded ≢ (side_words s (other h)).publish → u.loaded ≡ (side_words s h).publish
