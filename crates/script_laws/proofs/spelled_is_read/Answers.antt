use Rattle.script_laws.proofs.SpelledBack.{read_is_spelled}
use Rattle.script_laws.proofs.SpelledRead.{spelled_is_read}
use Rattle.script_laws.proofs.spelled_is_read.Goals as goal

pub returns : goal.returns
returns c = λ places text s. (read_is_spelled places text s, spelled_is_read places text s)
