-- What a verdict says.
use Rattle.std.specs.Prelude.{ℕ, Bool, false}
use Rattle.lift_base.specs.declared.Kind.{Kind}
use Rattle.lift_base.specs.declared.Kind.TheVariants.{Off}
use Rattle.lift_base.specs.declared.Mode.{Mode}
use Rattle.lift_base.specs.declared.Mode.TheVariants.{Normal}

-- a verdict, as contracts see it: a `Verdict` is a ruling whose clause is at most 12
pub record Ruling : Type 0 where
  pub kind : Kind
  pub clause : ℕ
  pub detail : ℕ
  pub mode : Mode
  pub bypass : Bool

-- before the first tick
abbrev pub initial : Ruling
initial = record { kind = Off; clause = 0; detail = 0; mode = Normal; bypass = false }
