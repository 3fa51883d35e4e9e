use Rattle.round_model.proofs.HeldLemmas as lemmas
use Rattle.round_model.proofs.list_is_told.Goals as goal

pub returns-clause-list : goal.returns-clause-list
returns-clause-list c = lemmas.list_is_told

pub returns-clause-deed : goal.returns-clause-deed
returns-clause-deed c = lemmas.deed_of_list
