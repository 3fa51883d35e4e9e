use Rattle.std.proofs.Common.{◌≡◌, ◌∙◌, [], None, ap, sym, subst}
use Rattle.event_record.specs.Record.{RecordData, Keeps}
use Rattle.saboteur.specs.Held.{plans_of}
use Rattle.lift_run.specs.Records.{RunData}
use Rattle.report.proofs.LastLines.{is_last_text}
use Rattle.script_model.specs.Last.{last_text}
use Rattle.script_model.specs.Report.{changes_of}
use Rattle.lift_making.specs.Jobs.{ByRounds}
use Rattle.lift_making.specs.Ways.{RunOf}
use Rattle.lift_making.proofs.making.last.Goals as goal

pub returns-clause-makes : goal.returns-clause-makes
returns-clause-makes g c =
    let run = c.into_run-run.result in
    let path = run.path.settled in
    let last = c.fill.new.last in
    let plans = plans_of (λ x. (goal.Saboteur-dyn g x).plan x.1) c.args.crew in
    let ran = subst (λ (r : RunData). RunOf (ByRounds plans) c.args.script None r.rounds r.path.settled) (sym c.into_run-run.ensures.run)
    c.in_ok-engine.ensures.ran in
    let keeps : Keeps (changes_of path) last = rw c.path.ensures at (c.fill.ensures.keeps [] c.in_ok-last.ensures.keeps) in
    let size : last.size ≡ c.args.number = c.fill.ensures.size ∙ ap (λ (r : RecordData). r.size) c.in_ok-last.ensures.empty in
    (ran, λ whole. is_last_text path last keeps ∙ ap (λ n. last_text n path) size)
