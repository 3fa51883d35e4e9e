-- What a `Watch` stands for.
use Rattle.std.specs.Prelude.{List}
use Rattle.lift_model.specs.Records.{Settings, InputData}
use Rattle.lift_model.specs.Trace.{words_of}
use Rattle.lift_model.specs.Watched.{WatchedTick, Watches}
use Rattle.contact_input.specs.StandsFor as wires
use Rattle.pit_reset.specs.StandsFor as pit
use Rattle.door_watch.specs.StandsFor as doors
use Rattle.lift_base.specs.declared.wires.TheConstants.{RESET, PIT_RESET}
use Rattle.grant_model.specs.declared.watch.Watch.{Watch}

-- it took the wire words of these inputs, and each latch the ticks that it watches
pub record Watched (it : Watch) (config : Settings) (inputs : List InputData) : Type 0 where
  pub wires : wires.StandsFor it.wires config.disc (words_of inputs)
  pub pit : (ticks : List WatchedTick) × Watches config PIT_RESET inputs ticks × pit.StandsFor it.pit ticks
  pub doors : (ticks : List WatchedTick) × Watches config RESET inputs ticks × doors.StandsFor it.doors config.door ticks
