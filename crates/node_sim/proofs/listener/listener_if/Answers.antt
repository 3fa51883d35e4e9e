use Rattle.std.proofs.Common.{[], Some, sym, subst, Option, ℕ}
use Rattle.node_sim.proofs.HeardLemmas.{heard_asked}
use Rattle.node_sim.specs.Heard.{HeardIf}
use Rattle.node_sim.proofs.listener.listener_if.Goals as goal

pub returns-in-Some : goal.returns-in-Some
returns-in-Some c config words e f =
    subst (λ (o : Option ℕ). HeardIf (Some c.new.result) config o words []) (sym c.in-Some.is)
    (heard_asked c.new.result c.in-Some.plain c.args.sct c.args.srvt config words e f (c.new.ensures words))
