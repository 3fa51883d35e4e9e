use Rattle.script_model.specs.Generated.{generated}
use Rattle.script_model.proofs.GeneratedRanges.{generated_is_replay}
use Rattle.script_laws.proofs.HeadBack.{head_back}
use Rattle.script_laws.proofs.Whole.{round_trip}
use Rattle.script_laws.proofs.generated_scripts_are_read.Goals as goal

pub returns-clause-replay : goal.returns-clause-replay
returns-clause-replay c = generated_is_replay

pub returns-clause-read : goal.returns-clause-read
returns-clause-read c = λ places number.
    let is = generated_is_replay places number in
    round_trip places (generated number) is (head_back (generated number).config is.config)
