use Rattle.std.proofs.Common.{◌≡◌, ap, ◌∙◌}
use Rattle.lift_base.specs.declared.TheConstants.{SOURCES}
use Rattle.lift_model.specs.Bits.{first_below}
use Rattle.lift_model.specs.Live.{Timed}
use Rattle.lift_model.specs.Truth.{true_word}
use Rattle.node_sim.specs.Audited.{ends_wrong, wrong_by}
use Rattle.node_sim.proofs.HeardLemmas.{step_of}
use Rattle.node_sim.proofs.WrongLemmas.{first_source}
use Rattle.node_sim.proofs.listeners.Listeners.take.Goals as goal

pub returns : goal.returns
returns c config trace before h words =
    let y : Timed = c.args.came in
    let roof = step_of _ _ y _ _ c.take-roof.ensures config config.roof (true_word trace 0) before h.roof (words 0) in
    let pit = step_of _ _ y _ _ c.take-pit.ensures config config.pit (true_word trace 1) before h.pit (words 1) in
    let car = c.take_if-car.ensures config config.car (true_word trace 2) before h.car (words 2) in
    let doors = step_of _ _ y _ _ c.take-doors.ensures config config.doors (true_word trace 3) before h.doors (words 3) in
    let panel = step_of _ _ y _ _ c.take-panel.ensures config config.panel (true_word trace 4) before h.panel (words 4) in
    let platform = c.take_if-platform.ensures config config.platform (true_word trace 5) before h.platform (words 5) in
    let first : c.first_of.result ≡ first_below SOURCES (ends_wrong config trace before y) =
    c.first_of.ensures ∙ first_source config trace before y c.take-roof.result c.take-pit.result c.take_if-car.result c.take-doors.result
    c.take-panel.result c.take_if-platform.result roof.0 pit.0 car.0 doors.0 panel.0 platform.0 in (
      c.wrong_by.ensures ∙ (ap (wrong_by c.came.inside.tick) first
          ∙ ap (λ (z : Timed). wrong_by z.tick (first_below SOURCES (ends_wrong config trace before y))) c.came.view_is),
      record { roof = roof.1; pit = pit.1; car = car.1; doors = doors.1; panel = panel.1; platform = platform.1 },
    )
