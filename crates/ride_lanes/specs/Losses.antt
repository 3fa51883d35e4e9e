-- Where power is lost, since when, and what took it.
use Rattle.std.specs.Prelude.{ℕ, zero, suc, ◌≡◌, ◌<◌, Contains, ◌+◌, ◌-◌, ◌==◌, nat_lt, nat_le, Bool, not, ◌&&◌, ◌||◌, if◌then◌else◌, List, [], ◌++◌, length, option_to_list}
use Rattle.std.specs.declared.option.Option.{Option}
use Rattle.std.specs.declared.option.Option.TheVariants.{None, Some}
use Rattle.lift_base.specs.declared.Kind.{Kind}
use Rattle.lift_base.specs.declared.Side.{Side}
use Rattle.lift_base.specs.declared.Side.TheVariants.{A, B}
use Rattle.core_model.specs.Settling.{Settled, out_at}
use Rattle.core_model.specs.Words.{is_off, stamp_of}
use Rattle.core_model.specs.declared.numbers.TheConstants.{CONTACTOR_OPEN}
use Rattle.script_model.specs.Report.{reason_at}
use Rattle.report.specs.Ticks.{settled_at, settled_before}
use Rattle.ride_lanes.specs.declared.losses.Loss.{Loss}
use Rattle.ride_lanes.specs.Takers.{taker_of}

-- power was on at the tick before, and is off
abbrev pub is_loss : Kind → Kind → Bool
is_loss before power = not (is_off before) && is_off power

-- the side that the reason tells of: the first whose output is off
abbrev pub teller_of : Settled → Side
teller_of s = if is_off s.a.kind then A else B

-- the reason is one that a command word tells
abbrev pub is_told : ℕ → Bool
is_told code = nat_lt 0 code && nat_le code CONTACTOR_OPEN

-- a stamp of one of the two ticks before tick t
abbrev pub is_recent : ℕ → ℕ → Bool
is_recent stamp t = nat_lt 0 stamp && (stamp + 1 == t || stamp + 2 == t)

-- the tick that took the power of tick t: that of the command that tells the reason, and else the one before
abbrev pub cause_of : ℕ → ℕ → ℕ → ℕ
cause_of t code word = if is_told code && is_recent (stamp_of word) t then stamp_of word else t - 1

-- what is marked at tick t, which settled this
unfoldable pub loss_at : ℕ → Settled → Loss
loss_at t s =
    let reason = reason_at t s in
    let side = teller_of s in
    record {
      tick = t;
      cause = cause_of t reason.code (out_at side s).word;
      reason = reason.code;
      detail = reason.detail;
      taker = taker_of reason.code reason.detail side;
    }

-- the loss of tick t, where it is one
abbrev pub loss_of : List Settled → ℕ → Option Loss
loss_of path t = if is_loss (settled_before path t).power (settled_at path t).power then Some (loss_at t (settled_at path t)) else None

-- the losses of the first n ticks, in order
abbrev pub losses_to : List Settled → ℕ → List Loss
losses_to path zero = []
losses_to path (suc n) = losses_to path n ++ option_to_list (loss_of path (suc n))

-- a list of losses has each tick that is one, and nothing else
pub record AreLosses (path : List Settled) (losses : List Loss) : Type 0 where
  pub each : (t : ℕ) (loss : Loss) → t < length path → loss_of path (t + 1) ≡ Some loss → Contains losses loss
  pub only : (loss : Loss) → Contains losses loss → (t : ℕ) × (t < length path) × (loss_of path (t + 1) ≡ Some loss)

unfoldable pub losses_of : List Settled → List Loss
losses_of path = losses_to path (length path)
