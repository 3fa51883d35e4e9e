-- What is true of a trace that producers made. All own.
use Rattle.std.specs.Prelude.{◌≡◌, ◌≢◌, ℕ, ◌+◌, ◌-◌, ◌<◌, ◌≤◌, true, false, List, length, take, get_or, Option, Some, None}
use Rattle.lift_base.specs.declared.TheConstants.{SOURCES}
use Rattle.lift_config.specs.Ranges.{IsInRange}
use Rattle.lift_model.specs.Enums.{Off, Side}
use Rattle.lift_model.specs.Grant.{grant}
use Rattle.lift_model.specs.Live.{Timed, pair_of}
use Rattle.lift_model.specs.Records.{Settings, InputData}
use Rattle.lift_model.specs.Trace.{frames_of, identifiers, image_at_end}
use Rattle.lift_model.specs.Truth.{source_of, true_word}
use Rattle.core_model.specs.Settling.{Settled, no_settled, out_at}
use Rattle.core_model.specs.Words.{stamp_of}
use Rattle.round_model.specs.Lawful.{IsLawful}
use Rattle.round_model.specs.Records.{RoundData}
use Rattle.lift_model.specs.Plans.{Plan}
use Rattle.node_sim.specs.Produced.{is_due, produced}
use Rattle.node_sim.specs.declared.cycles.TheConstants.{SHORTEST_CYCLE}

-- what the head and the cycle have to be: a pair counts until the next is whole
pub record Serves (config : Settings) (cycle : ℕ) : Type 0 where
  pub config_in_range : IsInRange config
  pub least : SHORTEST_CYCLE ≤ cycle
  pub most : cycle ≤ config.sct + 1

-- source j has a value at tick n: its true word when the plain frame of its pair came, which was in the cycle ticks before n
pub record IsRecent (config : Settings) (cycle : ℕ) (trace : List InputData) (n j plain : ℕ) : Type 0 where
  pub first : Timed
  pub second : Timed
  pub pair : pair_of (source_of config plain) (frames_of (source_of config plain) (take n trace)) ≡ Some (first, second)
  pub value : get_or (image_at_end config (take n trace)).values j None ≡ Some (true_word trace j first.tick)
  pub not_old : n ≤ first.tick + cycle
  pub past : first.tick + 1 ≤ n

-- each configured source has such a value at each tick from 7 on, when the last of the six has sent a pair
abbrev pub AreRecent : Settings → ℕ → List InputData → Type 0
AreRecent config cycle trace = (n : ℕ) → SOURCES < n → n ≤ length trace → (j plain : ℕ) → get_or (identifiers config) j None ≡ Some plain
    → IsRecent config cycle trace n j plain

-- from 7 on no source is missing
abbrev pub NeverMissing : Settings → List InputData → Type 0
NeverMissing config trace = (n : ℕ) → SOURCES < n → n ≤ length trace → (grant config trace n).clause ≢ 1

-- behind power of tick t stands the sample of the tick before, and a source's value in it was its true word at one tick of the cycle
-- before the sample
pub record IsTrueBehind (config : Settings) (cycle : ℕ) (trace : List InputData) (t n j : ℕ) : Type 0 where
  pub stamped : n + 1 ≡ t
  pub tick : ℕ
  pub value : get_or (image_at_end config (take n trace)).values j None ≡ Some (true_word trace j tick)
  pub not_old : t ≤ tick + cycle + 1
  pub past : tick + 2 ≤ t

-- so it is of each side and each configured source on a path
abbrev pub AreTrueBehind : Settings → ℕ → List InputData → List Settled → Type 0
AreTrueBehind config cycle trace path = (t : ℕ) → 0 < t → t ≤ length path → (get_or path (t - 1) no_settled).power ≢ Off
    → (side : Side) (j plain : ℕ) → get_or (identifiers config) j None ≡ Some plain
    → IsTrueBehind config cycle trace t (stamp_of (out_at side (get_or path (t - 1) no_settled)).word) j

-- and so in a lawful run of a produced trace
abbrev pub SimulatedIsTrue : Type 0
SimulatedIsTrue = (config : Settings) (cycle : ℕ) (crew : List (Option Plan)) (inputs : List InputData) (rounds : List RoundData)
    (path : List Settled)
    → Serves config cycle → length inputs ≤ config.ticks → IsLawful config crew (produced config cycle inputs) rounds path
    → AreTrueBehind config cycle (produced config cycle inputs) path

-- at one tick a source sends one frame at most
abbrev pub SendsOne : Type 0
SendsOne = (cycle j n : ℕ) → 2 ≤ cycle → 1 ≤ j → is_due cycle j n ≡ true → is_due cycle j (n - 1) ≡ false
