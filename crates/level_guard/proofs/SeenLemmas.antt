-- What a guard sees in an image is all that its rules look at.
use Rattle.std.proofs.Common.{◌≡◌, Bool, List, refl}
use Rattle.lift_base.specs.Ruling.{Ruling}
use Rattle.lift_model.specs.Chain.{is_contact_made}
use Rattle.lift_model.specs.Levelling.{is_in_zone, leaves, is_good_to_level}
use Rattle.lift_model.specs.Records.{ImageData}
use Rattle.level_guard.specs.Sees.{Sees}

pub zone_seen : (seen image : ImageData) → Sees seen image → is_in_zone seen ≡ is_in_zone image
zone_seen seen image s = rw s.doors refl

pub leaves_seen : (before seen image : ImageData) (verdict : Ruling) → Sees seen image
    → leaves before seen verdict ≡ leaves before image verdict
leaves_seen before seen image verdict s = rw s.doors refl

pub good_seen : (seen image : ImageData) (there : List Bool) (verdict : Ruling) → Sees seen image
    → is_good_to_level seen there verdict ≡ is_good_to_level image there verdict
unfolding is_contact_made
good_seen seen image there verdict s = rw (s.doors, s.platform, s.words) refl
