-- What a contract sees of a run.
use Rattle.std.specs.Prelude.{ℕ, List}
use Rattle.contactor_pair.specs.Settles.{PathData}
use Rattle.round_model.specs.Records.{RoundData}

-- what each tick settled, the rounds, and for how many of them there is room
pub record RunData : Type 0 where
  pub path : PathData
  pub rounds : List RoundData
  pub room : ℕ
