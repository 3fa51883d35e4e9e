use Rattle.round_model.proofs.HeldLemmas as lemmas
use Rattle.round_model.proofs.mask_is_told.Goals as goal

pub returns-clause-mask : goal.returns-clause-mask
returns-clause-mask c = lemmas.mask_is_told

pub returns-clause-deed : goal.returns-clause-deed
returns-clause-deed c = lemmas.deed_of_mask
