-- Traces whose frames told the truth. All own.
use Rattle.std.specs.Prelude.{◌≡◌, ℕ, ◌-◌, true, List, ◌∷◌, ◌++◌, map, get_or, Some, None}
use Rattle.lift_model.specs.Live.{Timed, Source, is_pair, value_of}
use Rattle.lift_model.specs.Records.{Settings, InputData}
use Rattle.lift_model.specs.Trace.{frames_of, identifiers}

-- what is looked at of the source with this plain identifier
abbrev pub source_of : Settings → ℕ → Source
source_of config plain = record { plain = plain; sct = config.sct; srvt = config.srvt }

-- the true word of the source with index j in the input of a tick
abbrev pub true_word : List InputData → ℕ → ℕ → ℕ
true_word trace j tick = get_or (map (λ input. get_or input.truth j 0) trace) (tick - 1) 0

-- x stands right before y in the list
pub record Neighbours (frames : List Timed) (x y : Timed) : Type 0 where
  pub earlier : List Timed
  pub later : List Timed
  pub stand : frames ≡ earlier ++ x ∷ y ∷ later

-- genuine: the value of each valid pair of a configured source is its true word in the input of the plain frame's tick
abbrev pub IsGenuine : Settings → List InputData → Type 0
IsGenuine config trace = (j plain : ℕ) → get_or (identifiers config) j None ≡ Some plain → (x y : Timed)
    → Neighbours (frames_of (source_of config plain) trace) x y → is_pair (source_of config plain) x y ≡ true
    → value_of x.frame ≡ true_word trace j x.tick
