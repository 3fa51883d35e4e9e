use Rattle.core_model.proofs.LockLemmas as lemmas
use Rattle.core_model.proofs.runs_lock_out.Goals as goal

pub returns : goal.returns
returns c = lemmas.run_locks_out
