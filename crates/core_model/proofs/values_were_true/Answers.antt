use Rattle.core_model.proofs.TruthLemmas.{values_true}
use Rattle.core_model.proofs.values_were_true.Goals as goal

pub returns : goal.returns
returns c config events s small run = values_true config events s small run
