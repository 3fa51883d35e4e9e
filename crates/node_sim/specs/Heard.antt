-- What a listener keeps of its source.
use Rattle.std.specs.Prelude.{◌≡◌, ℕ, Bool, true, ◌==◌, if◌then◌else◌, List, reverse, filter, Option, Some, None}
use Rattle.lift_model.specs.Live.{Timed, Source, is_pair, front_pair, newest_pair, value_of}
use Rattle.lift_model.specs.Records.{Settings}
use Rattle.lift_model.specs.Truth.{source_of}
use Rattle.node_sim.specs.Audited.{is_of, last_of, first_tick}
use Rattle.node_sim.specs.declared.listener.Listener.{Listener}

-- the tick of the newest frame, where y ends a valid pair with it
abbrev pub ending : Source → Option Timed → Timed → Option ℕ
ending source None y = None
ending source (Some x) y = if is_pair source x y then Some x.tick else None

-- the newest frame has this value
abbrev pub tells : Option Timed → ℕ → Bool
tells None word = true
tells (Some x) word = value_of x.frame == word

-- the true word of the newest frame's tick
abbrev pub word_of : (ℕ → ℕ) → Option Timed → ℕ
word_of words None = 0
word_of words (Some x) = words x.tick

-- the listener took these frames of its source, and these are the source's true words
pub record Heard (it : Listener) (source : Source) (words : ℕ → ℕ) (frames : List Timed) : Type 0 where
  pub asked : it.asked ≡ source
  pub newest : it.newest ≡ last_of frames
  pub word : it.word ≡ word_of words (last_of frames)
  pub ended : it.ended ≡ first_tick (front_pair source (reverse frames))
  pub pair : it.pair ≡ first_tick (newest_pair source (reverse frames))

-- the same where these frames of all sources came
abbrev pub HeardOf : Listener → Settings → ℕ → (ℕ → ℕ) → List Timed → Type 0
HeardOf it config plain words before = Heard it (source_of config plain) words (filter (is_of (source_of config plain)) before)

-- the same of a source that may not be configured
abbrev pub HeardIf : Option Listener → Settings → Option ℕ → (ℕ → ℕ) → List Timed → Type 0
HeardIf None config None words before = Unit {0}
HeardIf None config (Some plain) words before = ⊥
HeardIf (Some it) config None words before = ⊥
HeardIf (Some it) config (Some plain) words before = HeardOf it config plain words before
