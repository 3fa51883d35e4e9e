-- What a `PitLatch` stands for.
use Rattle.std.specs.Prelude.{◌≡◌, List}
use Rattle.lift_model.specs.Watched.{WatchedTick, is_latched_over}
use Rattle.pit_reset.specs.declared.latch.PitLatch.{PitLatch}

-- it took these ticks
pub record StandsFor (it : PitLatch) (ticks : List WatchedTick) : Type 0 where
  pub latched : it.latched ≡ is_latched_over ticks
