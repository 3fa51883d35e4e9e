-- What a `Steady` channel stands for.
use Rattle.std.specs.Prelude.{◌≡◌, ℕ, ◌-◌, List, length, take}
use Rattle.lift_model.specs.Live.{Source, Timed}
use Rattle.lift_model.specs.Records.{Settings, InputData}
use Rattle.lift_model.specs.Grant.{verdict_at_end}
use Rattle.grant_model.specs.Sensed.{Sensed}
use Rattle.grant_model.specs.declared.steady.Steady.{Steady}

-- what it tells after these inputs: the verdicts at the last two ticks
pub record Tells {C M : Type 0} (it : Steady C M) (config : Settings) (inputs : List InputData) : Type 0 where
  pub at : it.at ≡ length inputs
  pub verdict : it.verdict ≡ verdict_at_end config inputs
  pub before : it.before ≡ verdict_at_end config (take (length inputs - 1) inputs)

-- it was set to this config, and took these inputs
pub record StandsFor {C M : Type 0} (stands : C → Source → List Timed → ℕ → Type 0) (it : Steady C M) (config : Settings)
    (inputs : List InputData) : Type 0 where
  pub senses : Sensed stands it.senses config inputs
  pub tells : Tells it config inputs
