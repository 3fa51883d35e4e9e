-- What the producers of all sources stand for.
use Rattle.std.specs.Prelude.{◌≡◌, ℕ, ◌+◌, ◌==◌, if◌then◌else◌, List, option_map}
use Rattle.lift_model.specs.Records.{Settings, InputData}
use Rattle.lift_model.specs.Truth.{true_word}
use Rattle.lift_base.specs.declared.sources.TheConstants.{ROOF, PIT, CAR, DOORS, PANEL, PLATFORM}
use Rattle.node_sim.specs.Producing.{ProducerData}
use Rattle.node_sim.specs.declared.producing.Producers.{Producers}

-- the producer of the source with index i after n ticks of a trace
abbrev pub after_ticks : ℕ → List InputData → ℕ → ℕ → ℕ → ProducerData
after_ticks cycle trace n i plain = record
    { source = i + 1; plain = plain; cycle = cycle; ticks = n; before = if n == 0 then 0 else true_word trace i n }

-- each has taken n ticks
pub record Stand (it : Producers) (config : Settings) (cycle : ℕ) (trace : List InputData) (n : ℕ) : Type 0 where
  pub roof : it.roof ≡ after_ticks cycle trace n ROOF config.roof
  pub pit : it.pit ≡ after_ticks cycle trace n PIT config.pit
  pub car : it.car ≡ option_map (after_ticks cycle trace n CAR) config.car
  pub doors : it.doors ≡ after_ticks cycle trace n DOORS config.doors
  pub panel : it.panel ≡ after_ticks cycle trace n PANEL config.panel
  pub platform : it.platform ≡ option_map (after_ticks cycle trace n PLATFORM) config.platform
