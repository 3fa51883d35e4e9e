-- What each step of a seat does to its view, and what it tells.
use Rattle.std.specs.Prelude.{◌≡◌, ℕ, ◌+◌, Bool, true, false, is_some, Some, List, [], ◌∷◌, slice_index}
use Rattle.atomic_table.specs.Table.{Step, Me}
use Rattle.lift_base.specs.declared.Side.{Side}
use Rattle.lift_base.specs.declared.Side.TheVariants.{A, B}
use Rattle.round_board.specs.declared.view.Track.{Track}
use Rattle.round_board.specs.declared.view.Known.{Known}
use Rattle.round_board.specs.declared.view.Lead.{Lead}
use Rattle.round_board.specs.declared.view.View.{View}
use Rattle.round_board.specs.declared.view.View.TheVariants.{Leads, Acts, Passed, Ended, Spent}
use Rattle.round_board.specs.Tallies.{no_words, words_left, begun, published, commanded, ended}
use Rattle.round_board.specs.Rule.{blank, Looks}

abbrev At : Type 0
At = Step (Unit {0})

-- a seat's view, and what it carries
abbrev pub Sat : Type 0
Sat = Me (Unit {0}) View

-- the parts of a view
abbrev pub track_of : View → Track
track_of (Acts h p t) = t
track_of (Ended h t) = t
track_of _ = blank

abbrev pub pass_of : View → ℕ
pass_of (Acts h p t) = p
pass_of (Passed h p) = p
pass_of _ = 0

abbrev pub unknown : Known
unknown = record { made = false; told = true; was = no_words; now = blank }

abbrev pub blank_lead : Lead
blank_lead = record { tick = 0; a = unknown; b = unknown }

abbrev pub lead_of : View → Lead
lead_of (Leads l) = l
lead_of _ = blank_lead

-- the view of the first seat, which is the conductor's
abbrev pub starting : View
starting = Leads blank_lead

-- the steps of a side
abbrev pub begun_track : Track → Track
begun_track t = record { tally = begun t.tally; looked = false; loaded = 0 }

abbrev pub published_track : ℕ → Track → Track
published_track n t = record t { tally = published n t.tally }

-- n was loaded
abbrev pub seen_track : ℕ → Track → Track
seen_track n t = record { tally = record t.tally { published_first = is_some t.tally.publish }; looked = true; loaded = n }

-- n was stored as seen
abbrev pub noted_track : ℕ → Track → Track
noted_track n t = record t { tally = record t.tally { seen = Some n } }

abbrev pub commanded_track : ℕ → Track → Track
commanded_track n t = record t { tally = commanded n t.tally }

abbrev pub ended_track : Track → Track
ended_track t = record t { tally = ended t.tally }

abbrev pub acts : (Track → Track) → View → View
acts f (Acts h p t) = Acts h p (f t)
acts f v = v

-- the side's view goes on by f
abbrev pub Acted : (Track → Track) → Sat → Sat → Type 0
Acted f m m' = m' ≡ (acts f m.0, m.1)

abbrev pub begins : At → Sat → ℕ → Sat → Type 0
begins st m n m' = (n ≡ (track_of m.0).tally.tick + 1) × Acted begun_track m m'

abbrev pub publishes : At → Sat → ℕ → Sat → Type 0
publishes st m n m' = Acted (published_track st.first) m m'

abbrev pub sees : At → Sat → ℕ → Sat → Type 0
sees st m n m' = Acted (seen_track n) m m'

abbrev pub notes : At → Sat → ℕ → Sat → Type 0
notes st m n m' = Acted (noted_track st.first) m m'

abbrev pub commands : At → Sat → ℕ → Sat → Type 0
commands st m n m' = Acted (commanded_track st.first) m m'

abbrev pub ends : At → Sat → ℕ → Sat → Type 0
ends st m n m' = Acted ended_track m m'

-- the steps of the conductor
abbrev pub raised_known : Known → Known
raised_known k = record k { told = false; was = words_left k.now.tally }

abbrev pub raised : Lead → Lead
raised l = record { tick = l.tick + 1; a = raised_known l.a; b = raised_known l.b }

abbrev pub leads : (Lead → Lead) → View → View
leads f (Leads l) = Leads (f l)
leads f v = v

abbrev pub raises : At → Sat → ℕ → Sat → Type 0
raises st m n m' = m' ≡ (leads raised m.0, m.1)

abbrev pub with_known : (Known → Known) → Side → Lead → Lead
with_known f A l = record l { a = f l.a }
with_known f B l = record l { b = f l.b }

abbrev pub make : Known → Known
make k = record k { made = true }

-- its receipt is taken in
abbrev pub take_in : Track → Known → Known
take_in t k = record k { told = true; now = t }

abbrev pub side_if : Bool → Side
side_if true = A
side_if false = B

-- what the conductor knows at the opening
abbrev pub opened_lead : Lead
opened_lead = record { tick = 0; a = make unknown; b = make unknown }

-- the seat of a side is split from the conductor's
abbrev pub made : Side → View → View
made h v = leads (with_known make h) v

abbrev pub seat_of : Side → View
seat_of h = Acts h 0 blank

abbrev pub pass_note : Side → View → View
pass_note h (Leads l) = Passed h l.tick
pass_note h _ = Spent

abbrev pub receipt_note : View → View
receipt_note (Acts h p t) = Ended h t
receipt_note _ = Spent

abbrev pub with_pass : View → View → View
with_pass (Acts h p t) (Passed g q) = Acts h q t
with_pass v _ = v

abbrev pub with_receipt : View → View → View
with_receipt (Leads l) (Ended h t) = Leads (with_known (take_in t) h l)
with_receipt v _ = v

-- the ten words, where the conductor knows both sides
abbrev pub known_words : Lead → List ℕ
known_words l =
    let a = words_left l.a.now.tally in let b = words_left l.b.now.tally in
    0 ∷ l.tick
    ∷ a.publish ∷ a.seen ∷ a.command ∷ l.a.now.tally.ended
    ∷ b.publish ∷ b.seen ∷ b.command ∷ l.b.now.tally.ended ∷ []

-- what holds once both receipts of the tick are taken
pub record Closed (l : Lead) : Type 0 where
  pub tick_a : l.a.now.tally.tick ≡ l.tick
  pub tick_b : l.b.now.tally.tick ≡ l.tick
  pub stood_a : l.a.now.tally.stood ≡ l.a.was
  pub stood_b : l.b.now.tally.stood ≡ l.b.was
  pub led_a : l.a.now.tally.published_first ≡ true → l.a.now.looked ≡ true
  pub led_b : l.b.now.tally.published_first ≡ true → l.b.now.looked ≡ true
  pub looks_a : Looks l.tick l.a.now l.b.now
  pub looks_b : Looks l.tick l.b.now l.a.now

-- the conductor loads a word that it knows
abbrev pub reads : At → Sat → ℕ → Sat → Type 0
reads st m n m' = (m' ≡ m) × (n ≡ slice_index (known_words (lead_of m.0)) st.word) × Closed (lead_of m.0)

-- where the words of a side stand
abbrev pub publish_at : Side → ℕ
publish_at A = 2
publish_at B = 6

abbrev pub seen_at : Side → ℕ
seen_at A = 3
seen_at B = 7

abbrev pub command_at : Side → ℕ
command_at A = 4
command_at B = 8

abbrev pub done_at : Side → ℕ
done_at A = 5
done_at B = 9
