use Rattle.round_model.proofs.MakeLemmas as lemmas
use Rattle.round_model.proofs.has_rounds.Goals as goal

pub returns : goal.returns
returns c = lemmas.has_rounds
