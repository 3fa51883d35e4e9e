-- What the listeners of all sources keep.
use Rattle.std.specs.Prelude.{ℕ, Bool, if◌then◌else◌, List, Option, Some, None}
use Rattle.lift_base.specs.declared.sources.TheConstants.{ROOF, PIT, CAR, DOORS, PANEL, PLATFORM}
use Rattle.lift_model.specs.Live.{Timed}
use Rattle.lift_model.specs.Records.{Settings, InputData}
use Rattle.lift_model.specs.Truth.{true_word}
use Rattle.node_sim.specs.Heard.{HeardOf, HeardIf}
use Rattle.node_sim.specs.declared.listeners.Listeners.{Listeners}

-- these frames of all sources came
pub record Hears (it : Listeners) (config : Settings) (trace : List InputData) (before : List Timed) : Type 0 where
  pub roof : HeardOf it.roof config config.roof (true_word trace ROOF) before
  pub pit : HeardOf it.pit config config.pit (true_word trace PIT) before
  pub car : HeardIf it.car config config.car (true_word trace CAR) before
  pub doors : HeardOf it.doors config config.doors (true_word trace DOORS) before
  pub panel : HeardOf it.panel config config.panel (true_word trace PANEL) before
  pub platform : HeardIf it.platform config config.platform (true_word trace PLATFORM) before

-- the place of the first that holds
abbrev pub first_of : Bool → Bool → Bool → Bool → Bool → Bool → Option ℕ
first_of roof pit car doors panel platform =
    if roof then Some ROOF
    else if pit then Some PIT
    else if car then Some CAR
    else if doors then Some DOORS
    else if panel then Some PANEL
    else if platform then Some PLATFORM
    else None
