-- What the senses of a channel stand for.
use Rattle.std.specs.Prelude.{◌≡◌, ℕ, List}
use Rattle.lift_model.specs.Live.{Source, Timed}
use Rattle.lift_model.specs.Records.{Settings, InputData}
use Rattle.lift_model.specs.Trace.{configured}
use Rattle.grant_model.specs.Took.{TookAll}
use Rattle.grant_model.specs.Watched.{Watched}
use Rattle.grant_model.specs.declared.senses.Senses.{Senses}

-- they were set to this config, and took the frames of the inputs, their wire words, and the ticks that each latch watches
pub record Sensed {C : Type 0} (stands : C → Source → List Timed → ℕ → Type 0) (it : Senses C) (config : Settings)
    (inputs : List InputData) : Type 0 where
  pub sources : TookAll stands it.sources config inputs
  pub there : it.there ≡ configured config
  pub watch : Watched it.watch config inputs
