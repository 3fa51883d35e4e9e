-- What a `DoorWatch` stands for.
use Rattle.std.specs.Prelude.{◌≡◌, ℕ, List, length}
use Rattle.lift_model.specs.Latches.{is_door_stuck}
use Rattle.lift_model.specs.Watched.{WatchedTick, watched_at, are_faulty_over}
use Rattle.lift_model.specs.Ticks.{Counts}
use Rattle.door_watch.specs.declared.watch.DoorWatch.{DoorWatch}

-- it counts to door, and took these ticks
pub record StandsFor (it : DoorWatch) (door : ℕ) (ticks : List WatchedTick) : Type 0 where
  pub same_door : it.door ≡ door
  pub row : Counts door (λ t. is_door_stuck (watched_at ticks t).image) (length ticks) it.row
  pub faulty : it.faulty ≡ are_faulty_over door ticks
