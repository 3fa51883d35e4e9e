-- What a tick settles, from contactors and words; and what a path is.
use Rattle.std.specs.Prelude.{ℕ, not, ◌&&◌, ◌||◌, List, Option, is_some}
use Rattle.lift_model.specs.Enums.{Kind}
use Rattle.core_model.specs.Settling.{Out, Settled, output, common}
use Rattle.core_model.specs.Words.{is_off, alarm_of}

-- a side's output, where this is forced on its contactor and these are its command word and the word that it had seen
abbrev pub out_at : Option Kind → ℕ → ℕ → ℕ → Out
out_at forced word seen tick = record { kind = output forced word tick; forced = is_some forced; word = word; seen = seen }

-- what both outputs come to: the common kind, and the alarm where power is on and a word asks for it (5.12.1.8)
abbrev pub settled_from : Out → Out → Settled
settled_from a b =
    let power = common a.kind b.kind in
    record { power = power; alarm = not (is_off power) && (alarm_of a.word || alarm_of b.word); a = a; b = b }

-- what each tick settled, the first being tick 1, and for how many there is room
pub record PathData : Type 0 where
  pub settled : List Settled
  pub room : ℕ
