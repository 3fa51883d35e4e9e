use Rattle.core_model.proofs.DecideLemmas.{decided-says}
use Rattle.core_model.proofs.decisions_are_own.Goals as goal

pub returns : goal.returns
returns c kept t = decided-says kept t
