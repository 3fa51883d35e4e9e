use Rattle.round_model.proofs.DismissalLemmas as lemmas
use Rattle.round_model.proofs.dismissed_holds_nothing.Goals as goal

pub returns-clause-now : goal.returns-clause-now
returns-clause-now c = lemmas.dismissed

pub returns-clause-later : goal.returns-clause-later
returns-clause-later c = lemmas.stays_dismissed

pub returns-clause-never : goal.returns-clause-never
returns-clause-never c = lemmas.never_given

pub returns-clause-anew : goal.returns-clause-anew
returns-clause-anew c = lemmas.exchanged
