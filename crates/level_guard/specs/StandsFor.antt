-- What a `LevelGuard` stands for.
use Rattle.std.specs.Prelude.{◌≡◌, ℕ, List}
use Rattle.lift_model.specs.Levelling.{is_in_zone, has_moved, may_level}
use Rattle.lift_model.specs.Live.{Source, Timed}
use Rattle.lift_model.specs.Records.{Settings, InputData}
use Rattle.lift_model.specs.Trace.{configured, image_at_end}
use Rattle.grant_model.specs.Took.{Took, TookIf}
use Rattle.level_guard.specs.declared.guard.LevelGuard.{LevelGuard}

-- its channel and its consumers were set to this config, and took these inputs
pub record Parts {H C : Type 0} (follows : H → Settings → List InputData → Type 0) (stands : C → Source → List Timed → ℕ → Type 0)
    (it : LevelGuard H C) (config : Settings) (inputs : List InputData) : Type 0 where
  pub channel : follows it.channel config inputs
  pub doors : Took stands it.doors config config.doors inputs
  pub platform : TookIf stands it.platform config config.platform inputs
  pub there : it.there ≡ configured config

-- what it keeps and answers after these inputs
pub record Told {H C : Type 0} (it : LevelGuard H C) (config : Settings) (inputs : List InputData) : Type 0 where
  pub in_zone : it.in_zone ≡ is_in_zone (image_at_end config inputs)
  pub moved : it.moved ≡ has_moved config inputs
  pub level : it.level ≡ may_level config inputs

-- it was set to this config, and took these inputs
pub record StandsFor {H C : Type 0} (follows : H → Settings → List InputData → Type 0) (stands : C → Source → List Timed → ℕ → Type 0)
    (it : LevelGuard H C) (config : Settings) (inputs : List InputData) : Type 0 where
  pub parts : Parts follows stands it config inputs
  pub told : Told it config inputs
