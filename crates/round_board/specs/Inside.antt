-- How the fields of those at the board fit together, and what contracts see of them.
use Rattle.std.specs.Prelude.{◌≡◌, ℕ, ◌<◌, ◌^◌, Bool, true, false, not, Option, Some, None, []}
use Rattle.lift_base.specs.declared.Side.{Side}
use Rattle.round_board.specs.declared.words.SideWords.{SideWords}
use Rattle.round_board.specs.declared.words.Collected.{Collected}
use Rattle.round_board.specs.declared.view.Track.{Track}
use Rattle.round_board.specs.declared.view.Known.{Known}
use Rattle.round_board.specs.declared.view.View.TheVariants.{Leads, Acts, Passed, Ended}
use Rattle.round_board.specs.Tallies.{words_left}
use Rattle.round_board.specs.Records.{BoardId, SideData, PassData, ConductorData}
use Rattle.round_board.specs.Moves.{Sat, track_of, pass_of, lead_of}

abbrev pub side_data : BoardId → Side → Sat → SideData
side_data board side m = record { board = board; side = side; tally = (track_of m.0).tally }

abbrev pub pass_data : BoardId → Side → Sat → PassData
pass_data board side m = record { board = board; side = side; tick = pass_of m.0 }

abbrev pub conductor_data : BoardId → ℕ → Collected → Sat → ConductorData
conductor_data board tick words m = record { board = board; tick = tick; open_ = not (lead_of m.0).a.told; words = words }

-- what was loaded, where it was
abbrev pub loaded_word : Bool → ℕ → Option ℕ
loaded_word true n = Some n
loaded_word false n = None

-- the word stored as seen is the one loaded
abbrev pub Noted : Track → Type 0
Noted t = t.tally.seen ≡ loaded_word t.looked t.loaded

pub record SeatFits (side : Side) (tick : ℕ) (m : Sat) : Type 0 where
  pub actor : m ≡ (Acts side (pass_of m.0) (track_of m.0), [])
  pub tick_is : tick ≡ (track_of m.0).tally.tick
  pub noted : Noted (track_of m.0)

pub record PassFits (side : Side) (m : Sat) : Type 0 where
  pub pass : m ≡ (Passed side (pass_of m.0), [])
  pub small : pass_of m.0 < 2 ^ 24

pub record ReceiptFits (side : Side) (m : Sat) : Type 0 where
  pub receipt : m ≡ (Ended side (track_of m.0), [])
  pub noted : Noted (track_of m.0)

-- the words of a side: as it left them, or as they stood when the tick was raised
abbrev pub words_when : Bool → Known → SideWords
words_when true k = words_left k.now.tally
words_when false k = k.was

abbrev pub last_words : Known → SideWords
last_words k = words_when k.told k

pub record ConductorFits (tick : ℕ) (words : Collected) (m : Sat) : Type 0 where
  pub leader : m ≡ (Leads (lead_of m.0), [])
  pub tick_is : tick ≡ (lead_of m.0).tick
  pub both : (lead_of m.0).b.told ≡ (lead_of m.0).a.told
  pub words_a : words.a ≡ last_words (lead_of m.0).a
  pub words_b : words.b ≡ last_words (lead_of m.0).b
