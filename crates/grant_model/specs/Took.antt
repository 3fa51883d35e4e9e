-- What the consumers took of some inputs. `stands` is what a consumer of any kind stands for.
use Rattle.std.specs.Prelude.{⊤, ℕ, List, length, Option, Some, None}
use Rattle.lift_model.specs.Live.{Source, Timed}
use Rattle.lift_model.specs.Records.{Settings, InputData}
use Rattle.lift_model.specs.Trace.{frames_of}
use Rattle.lift_model.specs.Truth.{source_of}
use Rattle.grant_model.specs.declared.sources.Sources.{Sources}

-- it was set to the source with this plain identifier, and took the frames and the ends of these inputs' ticks
abbrev pub Took : {C : Type 0} → (C → Source → List Timed → ℕ → Type 0) → C → Settings → ℕ → List InputData → Type 0
Took stands it config plain inputs = stands it (source_of config plain) (frames_of (source_of config plain) inputs) (length inputs)

-- the same of a source that may not be there
abbrev pub TookIf : {C : Type 0} → (C → Source → List Timed → ℕ → Type 0) → Option C → Settings → Option ℕ → List InputData → Type 0
TookIf stands None config None inputs = ⊤
TookIf stands None config (Some plain) inputs = ⊥
TookIf stands (Some it) config None inputs = ⊥
TookIf stands (Some it) config (Some plain) inputs = Took stands it config plain inputs

-- each took the frames of its source
pub record TookAll {C : Type 0} (stands : C → Source → List Timed → ℕ → Type 0) (it : Sources C) (config : Settings)
    (inputs : List InputData) : Type 0 where
  pub roof : Took stands it.roof config config.roof inputs
  pub pit : Took stands it.pit config config.pit inputs
  pub car : TookIf stands it.car config config.car inputs
  pub doors : Took stands it.doors config config.doors inputs
  pub panel : Took stands it.panel config config.panel inputs
  pub platform : TookIf stands it.platform config config.platform inputs
