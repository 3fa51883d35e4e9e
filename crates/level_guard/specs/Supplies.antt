-- What a list of supplies is.
use Rattle.std.specs.Prelude.{ℕ, List}
use Rattle.core_model.specs.Supplies.{GivenData}

-- what was given at each tick, the first being tick 1, and for how many there is room
pub record SuppliesData : Type 0 where
  pub given : List GivenData
  pub room : ℕ
