-- What the two guards of the tool stand for.
use Rattle.std.specs.Prelude.{List}
use Rattle.lift_model.specs.Records.{Settings, InputData}
use Rattle.channel_masks.specs.StandsFor as masks
use Rattle.channel_walker.specs.StandsFor as walker
use Rattle.srdo_count.specs.Counted as counted
use Rattle.srdo_deadline.specs.Dated as dated
use Rattle.level_guard.specs.StandsFor as guard
use Rattle.lift_making.specs.declared.guards.Guards.{Guards}

-- both were set to this config, and took these inputs
pub record Guard (it : Guards) (config : Settings) (inputs : List InputData) : Type 0 where
  pub a : guard.StandsFor masks.StandsFor counted.StandsFor it.a config inputs
  pub b : guard.StandsFor walker.StandsFor dated.StandsFor it.b config inputs
