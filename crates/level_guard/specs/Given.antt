-- How what is given is made, tick by tick.
use Rattle.std.specs.Prelude.{◌≡◌, ℕ, ◌+◌, ◌++◌, List, take, drop, length}
use Rattle.lift_model.specs.Records.{Settings, InputData}
use Rattle.core_model.specs.Settling.{Settled}
use Rattle.core_model.specs.Supplies.{GivenData, supplies_from, supplies_of}

-- what was given at the first ticks, and what will be given at those that are left, are all that is given
pub record GivenSoFar (config : Settings) (trace : List InputData) (path : List Settled) (before : ℕ)
    (given : List GivenData) : Type 0 where
  pub all : given ++ supplies_from config trace (before + 1) (drop before path) ≡ supplies_of config trace path
