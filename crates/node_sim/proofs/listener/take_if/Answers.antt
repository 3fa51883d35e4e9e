use Rattle.std.proofs.Common.{subst}
use Rattle.node_sim.specs.Heard.{HeardIf}
use Rattle.node_sim.proofs.HeardLemmas.{step_if}
use Rattle.node_sim.proofs.listener.take_if.Goals as goal

pub returns-in-Some : goal.returns-in-Some
returns-in-Some c config plain words before h e = step_if _ _ _ _ _ c.take.ensures config plain words before
    (subst (λ o. HeardIf o config plain words before) c.in-Some.is h) e
