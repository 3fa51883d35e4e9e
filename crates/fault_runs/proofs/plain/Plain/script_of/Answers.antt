use Rattle.std.proofs.Common.{[]}
use Rattle.fault_runs.proofs.plain.Plain.script_of.Goals as goal

pub returns-in-Ok-clause-rules : goal.returns-in-Ok-clause-rules
returns-in-Ok-clause-rules c = c.in-Ok.ensures.rules []
