-- Values behind power were true. All own.
use Rattle.std.specs.Prelude.{◌≡◌, ◌≢◌, ℕ, ◌+◌, ◌-◌, ◌<◌, ◌≤◌, true, List, length, take, get_or, Some, None}
use Rattle.lift_model.specs.Enums.{Off, Side}
use Rattle.lift_model.specs.Live.{Timed, pair_of}
use Rattle.lift_model.specs.Records.{Settings, InputData}
use Rattle.lift_model.specs.Trace.{frames_of, identifiers, image_at_end}
use Rattle.lift_model.specs.Truth.{source_of, true_word, IsGenuine}
use Rattle.core_model.specs.Machine.{State, Event}
use Rattle.core_model.specs.Runs.{is_healthy_at}
use Rattle.core_model.specs.Settling.{no_settled, out_at}
use Rattle.core_model.specs.Words.{stamp_of}

-- source j has a pair at tick n, and its value there was its true word when the plain frame came, not long before t
pub record WasTrue (config : Settings) (trace : List InputData) (t n j plain : ℕ) : Type 0 where
  pub first : Timed
  pub second : Timed
  pub pair : pair_of (source_of config plain) (frames_of (source_of config plain) (take n trace)) ≡ Some (first, second)
  pub value : get_or (image_at_end config (take n trace)).values j None ≡ Some (true_word trace j first.tick)
  pub not_late : first.tick ≤ n
  pub stamped : n < t
  pub not_old : t ≤ first.tick + config.sct + config.srvt + 2

-- where power is on in a genuine trace, so it was for each configured source, at the stamp of each healthy side's command
abbrev pub ValuesWereTrue : Settings → List Event → State → Type 0
ValuesWereTrue config events s = IsGenuine config s.trace
    → (t : ℕ) → 0 < t → t ≤ length s.path → (get_or s.path (t - 1) no_settled).power ≢ Off
    → (side : Side) → is_healthy_at side events t ≡ true → (j plain : ℕ) → get_or (identifiers config) j None ≡ Some plain
    → WasTrue config s.trace t (stamp_of (out_at side (get_or s.path (t - 1) no_settled)).word) j plain
