use Rattle.core_model.proofs.MachineLemmas.{grant-old}
use Rattle.core_model.proofs.verdicts_stay.Goals as goal

pub returns : goal.returns
returns c config trace later n h = grant-old config trace later n h
