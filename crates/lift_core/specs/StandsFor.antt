-- What a core stands for.
use Rattle.std.specs.Prelude.{◌≡◌, ℕ, ◌-◌, ◌<◌, ◌≤◌, ◌^◌, List, length, take, get_or}
use Rattle.lift_model.specs.Records.{Settings, InputData}
use Rattle.core_model.specs.Backed.{AllBacked}
use Rattle.core_model.specs.Due.{IsUndisturbed, IsPlain}
use Rattle.core_model.specs.Genuine.{ValuesWereTrue}
use Rattle.core_model.specs.Machine.{State, Event}
use Rattle.core_model.specs.Runs.{CoreRun}
use Rattle.core_model.specs.Settling.{no_settled}
use Rattle.lift_core.specs.Parts.{CoreData, state_of}

-- these settings and these events: they lead to its state, and its channels took the inputs up to the last Sample of their side since its
-- last exchange
pub record StandsFor {CA CB : Type 0} (stands_a : CA → Settings → List InputData → Type 0)
    (stands_b : CB → Settings → List InputData → Type 0) (core : CoreData CA CB) (config : Settings) (events : List Event) : Type 0 where
  pub settings : core.config ≡ config
  pub few : config.ticks < 2 ^ 24
  pub inputs_room : core.trace.room ≡ config.ticks
  pub path_room : core.path.room ≡ config.ticks
  pub run : CoreRun config events (state_of core)
  pub channel_a : stands_a core.a.channel config (take core.a.side.stamp core.trace.inputs)
  pub channel_b : stands_b core.b.channel config (take core.b.side.stamp core.trace.inputs)

-- some events lead to it
abbrev pub Runs : {CA CB : Type 0} → (CA → Settings → List InputData → Type 0) → (CB → Settings → List InputData → Type 0)
    → CoreData CA CB → Type 0
Runs stands_a stands_b core = (events : List Event) × StandsFor stands_a stands_b core core.config events

-- what is promised of the state that these events lead to
pub record Promised (config : Settings) (events : List Event) (s : State) : Type 0 where
  -- for each tick and each side that is healthy at it, power that is on was granted, and that side saw the other agree
  pub backed : AllBacked config events s
  -- in a genuine trace the values behind power were true, each at its own tick not long before
  pub values : ValuesWereTrue config events s
  -- up to a tick up to which nothing disturbs the run, what was settled is what was due
  pub plain : (t : ℕ) → 0 < t → t ≤ length s.path → IsUndisturbed events t → IsPlain config s.trace t (get_or s.path (t - 1) no_settled)
