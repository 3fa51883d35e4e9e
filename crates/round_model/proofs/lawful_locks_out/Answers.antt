use Rattle.round_model.proofs.ToldLemmas as lemmas
use Rattle.round_model.proofs.lawful_locks_out.Goals as goal

pub returns : goal.returns
returns c = lemmas.lawful_locks_out
