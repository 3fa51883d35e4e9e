-- A change of power or alarm, as it is shown.
use Rattle.std.specs.Prelude.{ℕ, Bool}
use Rattle.lift_base.specs.declared.Kind.{Kind}

-- the tick, what it changed to, and why power is off, as a code and a detail; both are 0 where power is on
pub record ChangeData : Type 0 where
  pub tick : ℕ
  pub power : Kind
  pub alarm : Bool
  pub reason : ℕ
  pub detail : ℕ
