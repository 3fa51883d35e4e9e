use Rattle.fault_plan.proofs.ReplayLemmas.{is_replay}
use Rattle.fault_plan.proofs.laws.faulted_scripts_are_replays.Goals as goal

pub returns : goal.returns
returns c = is_replay
