-- How power is settled from two contactors. All own.
use Rattle.std.specs.Prelude.{ℕ, ◌+◌, Bool, false, not, ◌&&◌, nat_le, if◌then◌else◌, Option, Some, None}
use Rattle.lift_model.specs.Enums.{Kind, Off, Override, Keep, Follow, Force, Side, A, B}
use Rattle.core_model.specs.Words.{is_off, is_same, kind_of, stamp_of}
use Rattle.core_model.specs.declared.numbers.TheConstants.{COMMAND_AGE}

-- a contactor's output as it was settled, with the words that its side had
pub record Out : Type 0 where
  pub kind : Kind
  pub forced : Bool
  pub word : ℕ
  pub seen : ℕ

-- what a tick settled: power, the alarm, and the two outputs
pub record Settled : Type 0 where
  pub power : Kind
  pub alarm : Bool
  pub a : Out
  pub b : Out

-- a word counts at its stamp and for two ticks after it
abbrev pub effective : ℕ → ℕ → Kind
effective word tick = if nat_le (stamp_of word) tick && nat_le tick (stamp_of word + COMMAND_AGE) then kind_of word else Off

-- what a contactor gives: the kind that is forced on it, else what its word says now
abbrev pub output : Option Kind → ℕ → ℕ → Kind
output (Some k) word tick = k
output None word tick = effective word tick

-- the feedback of a contactor: its output was not Off
abbrev pub feedback : Out → Bool
feedback out = not (is_off out.kind)

-- power flows where both give the same kind
abbrev pub common : Kind → Kind → Kind
common a b = if is_same a b then a else Off

-- the kind that is forced after an order
abbrev pub ordered : Option Kind → Override → Option Kind
ordered forced Keep = forced
ordered forced Follow = None
ordered forced (Force k) = Some k

-- what is settled before the first tick
abbrev pub no_settled : Settled
no_settled =
    let none : Out = record { kind = Off; forced = false; word = 0; seen = 0 } in record { power = Off; alarm = false; a = none; b = none }

-- the output of a side
abbrev pub out_at : Side → Settled → Out
out_at A s = s.a
out_at B s = s.b
