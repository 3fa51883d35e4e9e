-- What a line of the table says of a run. All own.
use Rattle.std.specs.Prelude.{◌≡◌, ℕ, zero, suc, ◌+◌, ◌-◌, ◌==◌, nat_le, nat_lt, Bool, false, not, ◌&&◌, ◌||◌, if◌then◌else◌, List, [], ◌∷◌, ◌++◌, length, get_or, Option, Some, None}
use Rattle.std.specs.Bool.{beq}
use Rattle.core_model.specs.Settling.{Settled, no_settled}
use Rattle.core_model.specs.Words.{is_off, is_same}
use Rattle.lift_model.specs.Bits.{or_else}
use Rattle.lift_model.specs.Enums.{Kind, Off}
use Rattle.lift_model.specs.Grant.{grant}
use Rattle.lift_model.specs.Records.{Settings, InputData}
use Rattle.lift_model.specs.Ticks.{some_to}
use Rattle.script_model.specs.Report.{Reason, reason_at}
use Rattle.fault_runs.specs.declared.lines.Line.{Line}

-- the kinds that the clauses grant at the first n ticks
abbrev pub kinds_to : Settings → List InputData → ℕ → List Kind
kinds_to config inputs zero = []
kinds_to config inputs (suc n) = kinds_to config inputs n ++ (grant config inputs (suc n)).kind ∷ []

-- the first of the ticks from 1 to s that passes
abbrev pub first_to : ℕ → (ℕ → Bool) → Option ℕ
first_to zero p = None
first_to (suc s) p = or_else (first_to s p) (if p (suc s) then Some (suc s) else None)

-- how many of the ticks from 1 to s pass
abbrev pub count_to : ℕ → (ℕ → Bool) → ℕ
count_to zero p = 0
count_to (suc s) p = count_to s p + (if p (suc s) then 1 else 0)

-- what tick t settled
abbrev pub at : List Settled → ℕ → Settled
at path t = get_or path (t - 1) no_settled

-- power, the alarm or one of the contactors differs
abbrev pub differs : Settled → Settled → Bool
differs s u = not (is_same s.power u.power) || (not (beq s.alarm u.alarm)
    || (not (is_same s.a.kind u.a.kind) || not (is_same s.b.kind u.b.kind)))

abbrev pub differs_at : List Settled → List Settled → ℕ → Bool
differs_at path usual t = differs (at path t) (at usual t)

-- Off where the run without the fault has power
abbrev pub is_lost : Settled → Settled → Bool
is_lost s u = is_off s.power && not (is_off u.power)

abbrev pub is_lost_at : List Settled → List Settled → ℕ → ℕ → Bool
is_lost_at path usual from t = nat_le from t && is_lost (at path t) (at usual t)

-- the clauses granted this kind at tick t, where that is a tick
abbrev pub is_granted : List Kind → ℕ → Kind → Bool
is_granted kinds t kind = nat_lt 0 t && (nat_le t (length kinds) && is_same (get_or kinds (t - 1) Off) kind)

-- power of a kind that the clauses granted neither one tick before nor two
abbrev pub is_ungranted_at : List Settled → List Kind → ℕ → Bool
is_ungranted_at path kinds t =
    let power = (at path t).power in
    not (is_off power) && (not (is_granted kinds (t - 1) power) && not (is_granted kinds (t - 1 - 1) power))

-- power again after the tick of the Off
abbrev pub is_back_at : List Settled → Option ℕ → ℕ → Bool
is_back_at path None t = false
is_back_at path (Some off) t = nat_lt off t && not (is_off (at path t).power)

-- why that tick is Off
abbrev pub reason_of : List Settled → Option ℕ → Option Reason
reason_of path None = None
reason_of path (Some t) = if t == 0 then None else Some (reason_at t (at path t))

-- the line of this path, beside the path without the fault, where these kinds were granted and the fault begins in this tick
pub record IsLine (line : Line) (path usual : List Settled) (kinds : List Kind) (tick : ℕ) : Type 0 where
  pub differs : line.differs ≡ first_to (length path) (differs_at path usual)
  pub off : line.off ≡ first_to (length path) (is_lost_at path usual tick)
  pub reason : line.reason ≡ reason_of path line.off
  pub ungranted : line.ungranted ≡ count_to (length path) (is_ungranted_at path kinds)
  pub comes_back : line.comes_back ≡ some_to (length path) (is_back_at path line.off)
