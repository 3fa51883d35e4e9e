use Rattle.node_sim.proofs.GenuineLemmas.{says_what_is}
use Rattle.node_sim.proofs.laws.audit_is_true.Goals as goal

pub returns : goal.returns
returns c = says_what_is
