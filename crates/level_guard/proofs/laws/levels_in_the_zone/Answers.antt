use Rattle.level_guard.proofs.Permits.{level_given}
use Rattle.level_guard.proofs.laws.levels_in_the_zone.Goals as goal

pub returns : goal.returns
returns c config trace t s e = level_given config trace t s e
