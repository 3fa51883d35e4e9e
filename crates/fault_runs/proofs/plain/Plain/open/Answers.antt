use Rattle.fault_runs.proofs.RoundLemmas.{if_ok_at_all}
use Rattle.fault_runs.proofs.plain.Plain.open.Goals as goal

pub returns-then-is_faultless-clause-faultless : goal.returns-then-is_faultless-clause-faultless
returns-then-is_faultless-clause-faultless c = if_ok_at_all c.of.result (c.is_faultless.ensures.0 c.if-is_faultless.true)
