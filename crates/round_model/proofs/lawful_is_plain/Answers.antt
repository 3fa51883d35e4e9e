use Rattle.round_model.proofs.LawfulLemmas.{lawful_plain}
use Rattle.round_model.proofs.ToldLemmas.{calm_is_told}
use Rattle.round_model.proofs.lawful_is_plain.Goals as goal

pub returns-clause-calm : goal.returns-clause-calm
returns-clause-calm c = calm_is_told

pub returns-clause-plain : goal.returns-clause-plain
returns-clause-plain c = lawful_plain
