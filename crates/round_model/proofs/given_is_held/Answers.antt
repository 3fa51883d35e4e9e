use Rattle.round_model.proofs.DismissalLemmas as lemmas
use Rattle.round_model.proofs.given_is_held.Goals as goal

pub returns : goal.returns
returns c = lemmas.given_is_held
