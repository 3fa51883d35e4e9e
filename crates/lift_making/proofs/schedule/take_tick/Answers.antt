use Rattle.std.proofs.Common.{◌≡◌, ◌+◌, ◌-◌, ◌++◌, ℕ, List, length, slice_get, Some, refl, sym, subst, OnOk}
use Rattle.core_model.specs.Machine.{Event, Tick}
use Rattle.lift_model.specs.Records.{Settings}
use Rattle.lift_core.specs.StandsFor.{StandsFor}
use Rattle.lift_making.proofs.Steps.{next_input, on_err}
use Rattle.lift_making.proofs.schedule.take_tick.Goals as goal

pub returns-clause-ok : goal.returns-clause-ok
returns-clause-ok g c =
    let inputs = c.args.trace.now.inputs in
    let one = next_input inputs (length c.args.core.now.trace.inputs) c.get.result.now c.get.result.now
    (subst (λ (n : ℕ). Some c.get.result.now ≡ slice_get inputs (n + 1 - 1)) c.tick-ticks.ensures c.get.ensures) refl in
    subst (λ (es : List Event). OnOk c.settle.result ((config : Settings) (events : List Event)
    → StandsFor g.CA.Channel.stands g.CB.Channel.stands c.args.core.now config events
    → StandsFor g.CA.Channel.stands g.CB.Channel.stands c.settle.new.self config (events ++ es))) one c.settle.ensures.stands

pub returns-clause-bad : goal.returns-clause-bad
returns-clause-bad g c =
    let inputs = c.args.trace.now.inputs in
    let one = next_input inputs (length c.args.core.now.trace.inputs) c.get.result.now c.get.result.now
    (subst (λ (n : ℕ). Some c.get.result.now ≡ slice_get inputs (n + 1 - 1)) c.tick-ticks.ensures c.get.ensures) refl in
    on_err c.settle.result (λ is. record { event = Tick c.get.result.now; one = sym one; bad = c.settle.ensures.bad.0 is })
