use Rattle.round_model.proofs.LawfulLemmas.{lawful_backed}
use Rattle.round_model.proofs.ToldLemmas.{health_is_told}
use Rattle.round_model.proofs.lawful_is_backed.Goals as goal

pub returns-clause-health : goal.returns-clause-health
returns-clause-health c = health_is_told

pub returns-clause-backed : goal.returns-clause-backed
returns-clause-backed c = lawful_backed
