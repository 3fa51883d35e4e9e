-- What an audit says of a trace and a path: the first pair that is not genuine, the oldest value behind power, and the ticks of power
-- without a healthy side. All own.
use Rattle.std.specs.Prelude.{◌≡◌, ◌≢◌, ℕ, ◌+◌, ◌-◌, ◌≤◌, ◌<◌, Bool, true, false, not, ◌&&◌, ◌||◌, ◌==◌, nat_le, if◌then◌else◌, List, [], ◌∷◌, ◌++◌, reverse, filter, take, length, get_or, slice_get, Option, Some, None}
use Rattle.lift_base.specs.declared.TheConstants.{SOURCES}
use Rattle.lift_model.specs.Bits.{first_below, or_else}
use Rattle.lift_model.specs.Enums.{Off, Side, A, B}
use Rattle.lift_model.specs.Live.{Timed, Source, is_plain, is_inverted, is_pair, pair_of, value_of}
use Rattle.lift_model.specs.Records.{FrameData, Settings, InputData}
use Rattle.lift_model.specs.Trace.{frames_from, frames_of, identifiers, image_at_end}
use Rattle.lift_model.specs.Truth.{source_of, true_word}
use Rattle.core_model.specs.Settling.{Settled, no_settled, out_at}
use Rattle.core_model.specs.Words.{is_off, stamp_of}
use Rattle.round_model.specs.Parts.{is_healthy_by_script}
use Rattle.script_model.specs.declared.audits.Audit.{Audit}
use Rattle.script_model.specs.declared.audits.Wrong.{Wrong}

abbrev pub at_tick : ℕ → FrameData → Timed
at_tick tick frame = record { frame = frame; tick = tick }

-- the frame is one of the source's
abbrev pub is_of : Source → Timed → Bool
is_of source x = is_plain source x || is_inverted source x

-- the newest of these frames
abbrev pub last_of : List Timed → Option Timed
last_of frames = slice_get (reverse frames) 0

-- right after its newest frame x, y ends a valid pair whose value isn't the source's true word of x's tick; these are its true words
abbrev pub is_untrue : Source → (ℕ → ℕ) → Option Timed → Timed → Bool
is_untrue source words None y = false
is_untrue source words (Some x) y = is_pair source x y && not (value_of x.frame == words x.tick)

-- the same of a source that may not be configured, after these frames of all sources
abbrev pub untrue_if : Settings → (ℕ → ℕ) → List Timed → Timed → Option ℕ → Bool
untrue_if config words before y None = false
untrue_if config words before y (Some plain) =
    is_untrue (source_of config plain) words (last_of (filter (is_of (source_of config plain)) before)) y

-- the same of the source with index j
abbrev pub ends_wrong : Settings → List InputData → List Timed → Timed → ℕ → Bool
ends_wrong config trace before y j = untrue_if config (true_word trace j) before y (get_or (identifiers config) j None)

-- the inverted frame's tick, and the number of the source
abbrev pub wrong_by : ℕ → Option ℕ → Option Wrong
wrong_by tick None = None
wrong_by tick (Some j) = Some (record { tick = tick; source = j + 1 })

-- what is wrong at y, after these frames
abbrev pub wrong_at : Settings → List InputData → List Timed → Timed → Option Wrong
wrong_at config trace before y = wrong_by y.tick (first_below SOURCES (ends_wrong config trace before y))

-- what is wrong first in these frames, which follow those before
unfoldable pub first_wrong_in : Settings → List InputData → List Timed → List Timed → Option Wrong
first_wrong_in config trace before [] = None
first_wrong_in config trace before (y ∷ later) = or_else (wrong_at config trace before y)
    (first_wrong_in config trace (before ++ y ∷ []) later)

-- the first valid pair that is not genuine, by the place of its inverted frame
abbrev pub first_wrong_pair : Settings → List InputData → Option Wrong
first_wrong_pair config trace = first_wrong_in config trace [] (frames_from 1 trace)

-- the greater of two numbers that may not be there
abbrev pub greatest : Option ℕ → Option ℕ → Option ℕ
greatest None y = y
greatest (Some x) None = Some x
greatest (Some x) (Some y) = Some (if nat_le x y then y else x)

-- the tick of a pair's plain frame
abbrev pub first_tick : Option (Timed × Timed) → Option ℕ
first_tick None = None
first_tick (Some pair) = Some pair.0.tick

-- how old at tick n is what was sent at a tick
abbrev pub age_of : ℕ → Option ℕ → Option ℕ
age_of n None = None
age_of n (Some tick) = Some (n - tick)

-- how old a source's pair is at tick n
abbrev pub age_at : Settings → List InputData → ℕ → Option ℕ → Option ℕ
age_at config trace n None = None
age_at config trace n (Some plain) = age_of n
    (first_tick (pair_of (source_of config plain) (frames_of (source_of config plain) (take n trace))))

abbrev pub greatest_of : List (Option ℕ) → (Option ℕ → Option ℕ) → Option ℕ
greatest_of [] age = None
greatest_of (id ∷ ids) age = greatest (age id) (greatest_of ids age)

-- the oldest pair of a configured source at tick n
unfoldable pub oldest_at : Settings → List InputData → ℕ → Option ℕ
oldest_at config trace n = greatest_of (identifiers config) (age_at config trace n)

-- the oldest pair at the stamp of a side's command word, where power is on at t and the side is healthy
abbrev pub side_age : Settings → List InputData → ℕ → Settled → Side → Option ℕ
side_age config trace t st side =
    if not (is_off st.power) && is_healthy_by_script side trace t then oldest_at config trace (stamp_of (out_at side st).word) else None

-- of both sides in these ticks, of which the first is t
unfoldable pub oldest_from : Settings → List InputData → ℕ → List Settled → Option ℕ
oldest_from config trace t [] = None
oldest_from config trace t (st ∷ path) =
    greatest (greatest (side_age config trace t st A) (side_age config trace t st B)) (oldest_from config trace (t + 1) path)

-- the oldest value behind power that a healthy side granted
abbrev pub oldest_age : Settings → List InputData → List Settled → Option ℕ
oldest_age config trace path = oldest_from config trace 1 path

-- power is on at t and no side is healthy
abbrev pub is_unhealthy : List InputData → ℕ → Settled → Bool
is_unhealthy trace t st = not (is_off st.power) && not (is_healthy_by_script A trace t || is_healthy_by_script B trace t)

unfoldable pub unhealthy_from : List InputData → ℕ → List Settled → ℕ
unhealthy_from trace t [] = 0
unhealthy_from trace t (st ∷ path) = (if is_unhealthy trace t st then 1 else 0) + unhealthy_from trace (t + 1) path

-- how many such ticks there are
abbrev pub unhealthy_ticks : List InputData → List Settled → ℕ
unhealthy_ticks trace path = unhealthy_from trace 1 path

-- what an audit says
abbrev pub audited : Settings → List InputData → List Settled → Audit
audited config trace path = record {
  wrong = first_wrong_pair config trace;
  oldest = oldest_age config trace path;
  unhealthy = unhealthy_ticks trace path;
}

-- ---- what that means

-- source j's value at n was its true word at a tick not more than so many before
pub record WasTrueWithin (config : Settings) (trace : List InputData) (n j plain most : ℕ) : Type 0 where
  pub first : Timed
  pub second : Timed
  pub pair : pair_of (source_of config plain) (frames_of (source_of config plain) (take n trace)) ≡ Some (first, second)
  pub value : get_or (image_at_end config (take n trace)).values j None ≡ Some (true_word trace j first.tick)
  pub not_late : first.tick ≤ n
  pub not_old : n ≤ first.tick + most

-- so it was of each source value behind a power that a healthy side granted
abbrev pub AllTrueWithin : Settings → List InputData → List Settled → Option ℕ → Type 0
AllTrueWithin config trace path most = (t : ℕ) → 0 < t → t ≤ length path → (get_or path (t - 1) no_settled).power ≢ Off
    → (side : Side) → is_healthy_by_script side trace t ≡ true → (j plain : ℕ) → get_or (identifiers config) j None ≡ Some plain
    → (a : ℕ) × (most ≡ Some a) × WasTrueWithin config trace (stamp_of (out_at side (get_or path (t - 1) no_settled)).word) j plain a
