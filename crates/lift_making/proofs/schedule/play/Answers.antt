use Rattle.std.proofs.Common.{List, length, Some, rules, refl, sym, ap, ◌∙◌, subst}
use Rattle.std.proofs.lemmas.Option.{slice_get_read}
use Rattle.core_model.specs.Machine.{Event}
use Rattle.core_model.specs.Schedule.{StepData}
use Rattle.lift_core.specs.Parts.{CoreData, state_of}
use Rattle.lift_core.specs.StandsFor.{StandsFor}
use Rattle.lift_making.specs.Ways.{StopsAt}
use Rattle.lift_making.proofs.Steps.{goes_on, stops}
use Rattle.lift_making.proofs.schedule.play.Goals as goal

pub returns-in-Err : goal.returns-in-Err
returns-in-Err g c config start =
    let sa = g.CA.Channel.stands in
    let sb = g.CB.Channel.stands in
    let steps = c.args.steps.now in
    let i = c.loop-step.step-index in
    let got = slice_get_read steps (length steps) i c.step-item.result refl (search rules) c.step-item.is
    ∙ ap (λ (s : StepData). Some s) (sym c.step.view_is) in
    let there = stops sa sb c.loop-step.core config c.args.trace.now.inputs steps i _ got
    (c.loop-step.invariant.1 config start) c.in-Err.ensures.bad in
    subst (λ (x : CoreData g.row.CA.Denot g.row.CB.Denot). (events : List Event) × StandsFor sa sb x config events
    × StopsAt config c.args.trace.now.inputs steps c.step.inside.line events (state_of x))
    (sym c.in-Err.ensures.same) there

pub loop-step-preserved : goal.loop-step-preserved
loop-step-preserved g c = (
  c.in-Ok.ensures.config ∙ c.loop-step.invariant.0,
  λ config start.
      let sa = g.CA.Channel.stands in
      let sb = g.CB.Channel.stands in
      let steps = c.args.steps.now in
      let i = c.loop-step.step-index in
      let got = slice_get_read steps (length steps) i c.step-item.result refl (search rules) c.step-item.is
      ∙ ap (λ (s : StepData). Some s) (sym c.step.view_is) in
      let h = c.loop-step.invariant.1 config start in
      subst (λ (es : List Event). StandsFor sa sb c.take.new.core config es)
      (sym (goes_on sa sb c.loop-step.core config c.args.trace.now.inputs steps i _ got h)) (c.in-Ok.ensures.ok config _ h),
)
