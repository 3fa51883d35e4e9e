use Rattle.core_model.proofs.WordLemmas.{publish_reads, command_reads}
use Rattle.core_model.proofs.words_are_read_back.Goals as goal

pub returns-clause-published : goal.returns-clause-published
returns-clause-published c n v h i j = publish_reads n v h i j

pub returns-clause-commanded : goal.returns-clause-commanded
returns-clause-commanded c d h i j = command_reads d h i j
