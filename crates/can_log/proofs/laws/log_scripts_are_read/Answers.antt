use Rattle.can_log.proofs.InRange.{read_back}
use Rattle.can_log.proofs.laws.log_scripts_are_read.Goals as goal

pub returns : goal.returns
returns c = λ places config log rows is. read_back places config log rows is
