use Rattle.core_model.proofs.LockLemmas as lemmas
use Rattle.core_model.proofs.starts_open.Goals as goal

pub returns : goal.returns
returns c = lemmas.run_starts_open
