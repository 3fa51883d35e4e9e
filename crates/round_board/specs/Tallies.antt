-- What a side did in its tick: the words that it stored, over those that stood before.
use Rattle.std.specs.Prelude.{ℕ, ◌+◌, false, Option, Some, None, is_some}
use Rattle.lift_base.specs.declared.Side.{Side}
use Rattle.lift_base.specs.declared.Side.TheVariants.{A, B}
use Rattle.round_board.specs.declared.words.SideWords.{SideWords}
use Rattle.round_board.specs.declared.tally.Tally.{Tally}

-- the other side
abbrev pub other : Side → Side
other A = B
other B = A

abbrev pub no_words : SideWords
no_words = record { publish = 0; seen = 0; command = 0 }

-- a side that has begun no tick
abbrev pub idle : Tally
idle = record { tick = 0; ended = 0; stood = no_words; publish = None; seen = None; command = None; published_first = false }

-- a word that was w before: the one stored, or w
abbrev pub word_after : Option ℕ → ℕ → ℕ
word_after None w = w
word_after (Some n) w = n

-- the words of a side that were w before its tick
abbrev pub words_after : Tally → SideWords → SideWords
words_after t w = record {
  publish = word_after t.publish w.publish;
  seen = word_after t.seen w.seen;
  command = word_after t.command w.command;
}

-- the words of a side as they stand
abbrev pub words_left : Tally → SideWords
words_left t = words_after t t.stood

-- the next tick begins, in which nothing is stored yet
abbrev pub begun : Tally → Tally
begun t =
    record {
      tick = t.tick + 1;
      ended = t.ended;
      stood = words_left t;
      publish = None;
      seen = None;
      command = None;
      published_first = false;
    }

abbrev pub published : ℕ → Tally → Tally
published n t = record t { publish = Some n }

-- n was loaded from the peer and stored as seen
abbrev pub looked : ℕ → Tally → Tally
looked n t = record t { seen = Some n; published_first = is_some t.publish }

abbrev pub commanded : ℕ → Tally → Tally
commanded n t = record t { command = Some n }

abbrev pub ended : Tally → Tally
ended t = record t { ended = t.tick }
