use Rattle.saboteur.specs.Held.{plans_of}
use Rattle.lift_front.specs.Calls.{call}
use Rattle.lift_making.specs.Making.{page_text}
use Rattle.lift_promise.specs.Promise.{given}
use Rattle.lift_promise.proofs.LawfulRuns.{shows}
use Rattle.lift_promise.proofs.StoreEnds.{not_read}
use Rattle.lift_promise.proofs.run.run_script.Goals as goal

pub returns-in-Err-clause-comes_to : goal.returns-in-Err-clause-comes_to
returns-in-Err-clause-comes_to g c source is =
    let plans = plans_of (λ x. (goal.Saboteur-dyn g x).plan x.1) c.args.crew in
    let sink = call g.K.Sink.held g.K.Sink.faults c.args.sink.now c.refuse.new.sink in
    rw c.refuse.ensures.ending
    (not_read (given plans source sink c.args.command) _ c.refuse.result.run is.calm c.refuse.ensures.run c.refuse.ensures.wrote)

pub returns-in-Ok-clause-comes_to : goal.returns-in-Ok-clause-comes_to
returns-in-Ok-clause-comes_to g c source is =
    let plans = plans_of (λ x. (goal.Saboteur-dyn g x).plan x.1) c.args.crew in
    let sink = call g.K.Sink.held g.K.Sink.faults c.args.sink.now c.print-ending.new.sink in
    let made = c.in-Ok.made in
    shows (given plans source sink c.args.command) c.print-ending.result c.args.script made.run made.stopped_at
    (page_text made.page made.run) c.requires.shows c.print-ending.ensures.has_run c.print-ending.ensures.stopped is
    c.in-Ok.ensures.makes.0 c.in-Ok.ensures.makes.1 c.print-ending.ensures.wrote
