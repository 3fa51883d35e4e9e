use Rattle.node_sim.proofs.Behind.{are_recent, never_missing}
use Rattle.node_sim.proofs.Recent.{genuine}
use Rattle.node_sim.proofs.laws.produced_is_true.Goals as goal

pub returns-clause-genuine : goal.returns-clause-genuine
returns-clause-genuine c config cycle inputs s = genuine config cycle inputs s.config_in_range

pub returns-clause-recent : goal.returns-clause-recent
returns-clause-recent c config cycle inputs s = are_recent config cycle inputs s

pub returns-clause-missing : goal.returns-clause-missing
returns-clause-missing c config cycle inputs s = never_missing config cycle inputs s
