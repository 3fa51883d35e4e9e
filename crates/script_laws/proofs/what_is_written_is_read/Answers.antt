use Rattle.script_laws.proofs.HeadBack.{head_back}
use Rattle.script_laws.proofs.Whole.{round_trip}
use Rattle.script_laws.proofs.what_is_written_is_read.Goals as goal

pub returns : goal.returns
returns c = λ places s is. round_trip places s is (head_back s.config is.config)
