-- What a `DeadlineSource` stands for.
use Rattle.std.specs.Prelude.{◌≡◌, ℕ, ◌+◌, List, [], ◌∷◌, reverse, if◌then◌else◌, Option, Some, None}
use Rattle.lift_model.specs.Live.{Timed, Source, is_plain, newest_pair, value_of}
use Rattle.srdo_deadline.specs.declared.DeadlineSource.{DeadlineSource}
use Rattle.srdo_deadline.specs.declared.dates.Waiting.{Waiting}
use Rattle.srdo_deadline.specs.declared.dates.Until.{Until}

-- the newest frame, where it is plain
abbrev pub waiting_of : Source → List Timed → Option Waiting
waiting_of source [] = None
waiting_of source (x ∷ earlier) = if is_plain source x then Some (record { frame = x.frame; came = x.tick }) else None

-- the source's pair, and the last tick at which it counts
abbrev pub until_of : Source → Option (Timed × Timed) → Option Until
until_of source None = None
until_of source (Some pair) = Some (record { value = value_of pair.0.frame; last = pair.1.tick + source.sct })

-- it was set to this source, took these frames, and ended n ticks
pub record StandsFor (it : DeadlineSource) (source : Source) (frames : List Timed) (n : ℕ) : Type 0 where
  pub plain : it.plain ≡ source.plain
  pub sct : it.sct ≡ source.sct
  pub srvt : it.srvt ≡ source.srvt
  pub ended : it.ended ≡ n
  pub waiting : it.waiting ≡ waiting_of source (reverse frames)
  pub until : it.until ≡ until_of source (newest_pair source (reverse frames))
