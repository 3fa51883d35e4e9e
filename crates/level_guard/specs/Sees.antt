-- What a guard looks at in an image.
use Rattle.std.specs.Prelude.{◌≡◌, get_or, None}
use Rattle.lift_base.specs.declared.sources.TheConstants.{DOORS, PLATFORM}
use Rattle.lift_model.specs.Records.{ImageData}

-- the images have the same value of the doors, the same of the platform, and the same words of the wires
pub record Sees (seen image : ImageData) : Type 0 where
  pub doors : get_or seen.values DOORS None ≡ get_or image.values DOORS None
  pub platform : get_or seen.values PLATFORM None ≡ get_or image.values PLATFORM None
  pub words : seen.words ≡ image.words
