-- What a watcher stands for.
use Rattle.std.specs.Prelude.{List}
use Rattle.lift_model.specs.Records.{Settings, InputData}
use Rattle.srdo_count.specs.Counted as counted
use Rattle.grant_model.specs.Sensed.{Sensed}
use Rattle.channel_masks.specs.StandsFor.{StandsFor}
use Rattle.ride_lanes.specs.declared.watcher.Watcher.{Watcher}

-- its senses and its channel were set to this config, and took these inputs
pub record Watches (it : Watcher) (config : Settings) (inputs : List InputData) : Type 0 where
  pub senses : Sensed counted.StandsFor it.senses config inputs
  pub channel : StandsFor it.channel config inputs
