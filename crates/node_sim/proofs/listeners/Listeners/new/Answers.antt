use Rattle.std.proofs.Common.{[], refl, subst}
use Rattle.lift_model.specs.Records.{Settings}
use Rattle.lift_model.specs.Truth.{true_word}
use Rattle.node_sim.specs.Hearing.{Hears}
use Rattle.node_sim.proofs.listeners.Listeners.new.Goals as goal

pub returns : goal.returns
returns c trace =
    subst (λ (k : Settings). Hears
    (record {
      roof = c.new-roof.result;
      pit = c.new-pit.result;
      car = c.listener_if.result;
      doors = c.new-doors.result;
      panel = c.new-panel.result;
      platform = c.listener_if-2.result;
    }) k trace []) c.config.view_is
    (record {
      roof = c.new-roof.ensures (true_word trace 0);
      pit = c.new-pit.ensures (true_word trace 1);
      car = c.listener_if.ensures _ (true_word trace 2) refl refl;
      doors = c.new-doors.ensures (true_word trace 3);
      panel = c.new-panel.ensures (true_word trace 4);
      platform = c.listener_if-2.ensures _ (true_word trace 5) refl refl;
    })
