use Rattle.round_model.proofs.SeenLemmas as lemmas
use Rattle.round_model.proofs.lawful_sees_others.Goals as goal

pub returns : goal.returns
returns c = lemmas.lawful_sees_others
