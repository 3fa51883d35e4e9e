-- What each log keeps.
use Rattle.std.specs.Prelude.{ℕ, ◌≡◌, ◌<◌, ◌≤◌, List, [], ◌∷◌, length, Option, Some, None}
use Rattle.std.specs.List.{AllByRecursion}
use Rattle.lift_base.specs.declared.limits.TheConstants.{MOST_FRAMES}
use Rattle.can_log.specs.declared.log.Taken.{Taken}
use Rattle.can_log.specs.Taken.{LogData, tick_at, frames_in}

-- no tick comes before one that stands earlier
abbrev pub IsSorted : List Taken → Type 0
IsSorted [] = Unit {0}
IsSorted (t ∷ ts) = AllByRecursion (λ u. t.tick ≤ u.tick) ts × IsSorted ts

-- the last tick and the last time, by the first
abbrev pub ComesTo : Option ℕ → ℕ → ℕ → ℕ → Type 0
ComesTo None tick last ticks = (last ≡ 0) × (ticks ≡ 0)
ComesTo (Some first) tick last ticks = (first ≤ last) × (ticks ≡ tick_at first tick last)

-- how many frames the last tick has is kept beside
pub record IsLog (log : LogData) (here : ℕ) : Type 0 where
  pub some_time : 0 < log.taking.tick
  pub comes : ComesTo log.first log.taking.tick log.last log.ticks
  pub most : log.ticks ≤ log.taking.most
  pub sorted : IsSorted log.taken
  pub reach : AllByRecursion (λ t. (1 ≤ t.tick) × (t.tick ≤ log.ticks)) log.taken
  pub few : (n : ℕ) → length (frames_in n log.taken) ≤ MOST_FRAMES
  pub here_is : here ≡ length (frames_in log.ticks log.taken)
