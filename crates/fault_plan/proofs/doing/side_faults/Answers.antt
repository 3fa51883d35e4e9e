use Rattle.std.proofs.Common.{rules}
use Rattle.fault_plan.specs.Doing.{side_faults}
use Rattle.fault_plan.proofs.doing.side_faults.Goals as goal

pub returns-then-tick-fault : goal.returns-then-tick-fault
unfolding side_faults
returns-then-tick-fault c = search rules

pub returns : goal.returns
unfolding side_faults
returns c = search rules
