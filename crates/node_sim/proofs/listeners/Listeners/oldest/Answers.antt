use Rattle.std.proofs.Common.{ℕ, ◌≡◌, ◌∙◌, Some}
use Rattle.lift_model.specs.Truth.{true_word}
use Rattle.node_sim.specs.Audited.{age_at}
use Rattle.node_sim.specs.declared.listeners.Listeners.{Listeners}
use Rattle.node_sim.proofs.WrongLemmas.{age_of_heard, oldest_is}
use Rattle.node_sim.proofs.listeners.Listeners.oldest.Goals as goal

pub returns : goal.returns
returns c config trace h =
    let n : ℕ = c.args.n in
    let it : Listeners = c.args.self.now in
    let platform : c.age_if.result ≡ age_at config trace n config.platform =
    c.age_if.ensures config config.platform (true_word trace 5) trace h.platform in
    let panel : c.age.result ≡ age_at config trace n (Some config.panel) = c.age.ensures
    ∙ age_of_heard it.panel config config.panel (true_word trace 4) trace n h.panel in
    let doors : c.age-2.result ≡ age_at config trace n (Some config.doors) = c.age-2.ensures
    ∙ age_of_heard it.doors config config.doors (true_word trace 3) trace n h.doors in
    let car : c.age_if-2.result ≡ age_at config trace n config.car = c.age_if-2.ensures config config.car (true_word trace 2) trace h.car in
    let pit : c.age-3.result ≡ age_at config trace n (Some config.pit) = c.age-3.ensures
    ∙ age_of_heard it.pit config config.pit (true_word trace 1) trace n h.pit in
    let roof : c.age-4.result ≡ age_at config trace n (Some config.roof) = c.age-4.ensures
    ∙ age_of_heard it.roof config config.roof (true_word trace 0) trace n h.roof in
    rw (
      c.older.ensures,
      c.older-pit.ensures,
      c.older-car.ensures,
      c.older-doors.ensures,
      c.older-panel.ensures,
      c.older-platform.ensures,
      roof,
      pit,
      car,
      doors,
      panel,
      platform,
    ) (oldest_is config trace n)
