use Rattle.can_log.proofs.RunsBack.{log_is_read}
use Rattle.can_log.proofs.laws.written_runs_are_read.Goals as goal

pub returns : goal.returns
returns c = λ places s is heard. log_is_read places s is heard
