use Rattle.script_laws.proofs.Counts.{meant_has}
use Rattle.script_laws.proofs.ticks_are_steps.Goals as goal

pub returns : goal.returns
returns c = meant_has
