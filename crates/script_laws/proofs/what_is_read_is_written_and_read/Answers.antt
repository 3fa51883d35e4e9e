use Rattle.script_laws.proofs.HeadBack.{head_back}
use Rattle.script_laws.proofs.InRange.{meant_is_replay}
use Rattle.script_laws.proofs.Whole.{round_trip}
use Rattle.script_laws.proofs.what_is_read_is_written_and_read.Goals as goal

pub returns : goal.returns
returns c = λ places text s means.
    let is = meant_is_replay places text s means in round_trip places s is (head_back s.config is.config)
