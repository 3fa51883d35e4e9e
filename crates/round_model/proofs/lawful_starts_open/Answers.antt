use Rattle.round_model.proofs.ToldLemmas as lemmas
use Rattle.round_model.proofs.lawful_starts_open.Goals as goal

pub returns : goal.returns
returns c = lemmas.lawful_starts_open
