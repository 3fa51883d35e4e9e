-- How the core is stepped through a schedule.
use Rattle.std.specs.Prelude.{ℕ, ◌≡◌, false, List, [], ◌∷◌}
use Rattle.std.specs.declared.option.Option.{Option}
use Rattle.std.specs.declared.option.Option.TheVariants.{None, Some}
use Rattle.lift_model.specs.Records.{Settings, InputData}
use Rattle.core_model.specs.Machine.{Event, State, enabled}
use Rattle.core_model.specs.Schedule.{StepData}
use Rattle.lift_making.specs.Ways.{events_of, StopsAt}

-- the act that comes behind these inputs is this event, and it is not possible
pub record IsBad (config : Settings) (s : State) (events : List Event) : Type 0 where
  pub event : Event
  pub one : events ≡ event ∷ []
  pub bad : enabled config s event ≡ false

-- a core stands for the events of these steps, or for those before the first that is not possible, whose line this is
abbrev pub Plays : (List Event → Type 0) → Settings → State → List InputData → List StepData → Option ℕ → Type 0
Plays stands config s inputs steps None = stands (events_of inputs steps)
Plays stands config s inputs steps (Some line) = (events : List Event) × stands events × StopsAt config inputs steps line events s
