use Rattle.script_laws.proofs.InRange.{meant_is_schedule, meant_is_replay}
use Rattle.script_laws.proofs.read_scripts_are_in_range.Goals as goal

pub returns-clause-replay : goal.returns-clause-replay
returns-clause-replay c = meant_is_replay

pub returns-clause-schedule : goal.returns-clause-schedule
returns-clause-schedule c = meant_is_schedule
