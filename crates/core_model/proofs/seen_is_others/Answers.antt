use Rattle.core_model.proofs.SeenLemmas.{run_sees_others}
use Rattle.core_model.proofs.seen_is_others.Goals as goal

pub returns : goal.returns
returns c = run_sees_others
