use Rattle.std.proofs.Common.{◌+◌, ◌-◌, ◌∙◌, ℕ, length, take, ap, refl, subst, sym, arith}
use Rattle.std.proofs.lemmas.List.{take_rest, length-drop}
use Rattle.std.proofs.Math.Seq.{take-length}
use Rattle.script_model.specs.Meaning.{NoFeed}
use Rattle.fault_script.specs.Refusals.{Stops}
use Rattle.fault_script.proofs.WholeLines.{no_feed_before}
use Rattle.fault_script.proofs.Feeding.{line_more, line_ended, line_refused}
use Rattle.fault_script.proofs.body.Body.feed.Goals as goal

pub loop-end-preserved : goal.loop-end-preserved
loop-end-preserved c =
    let old = c.args.self.now in
    let new = c.take_line.new.self in
    let piece = c.args.piece.now in
    let rest = c.loop-end.rest.now in
    let n = c.in-Some.end in
    let found = c.in-Some.ensures in
    let loop = c.loop-end.invariant in
    let tail = take_rest rest (n + 1) in
    let left = ap length tail ∙ length-drop (n + 1) rest in
    let leads = line_more old c.loop-end.self new piece rest (take n rest) _ n loop.leads loop.within found.0.high found.1 refl tail in
    record { leads = leads c.in-More.ensures; within = omega arith }

pub take_line-requires : goal.take_line-requires
take_line-requires c = no_feed_before c.loop-end.rest.now c.in-Some.end c.in-Some.ensures.0.before

pub returns-in-Whole-clause-fed : goal.returns-in-Whole-clause-fed
returns-in-Whole-clause-fed c =
    let old = c.args.self.now in
    let new = c.take_line.new.self in
    let piece = c.args.piece.now in
    let rest = c.loop-end.rest.now in
    let n = c.in-Some.end in
    let found = c.in-Some.ensures in
    let loop = c.loop-end.invariant in
    line_ended old c.loop-end.self new piece rest (take n rest) n loop.leads loop.within found.0.high found.1 refl c.in-Whole.ensures

pub returns-in-Refused-clause-fed : goal.returns-in-Refused-clause-fed
returns-in-Refused-clause-fed c =
    let old = c.args.self.now in
    let piece = c.args.piece.now in
    let rest = c.loop-end.rest.now in
    let n = c.in-Some.end in
    let found = c.in-Some.ensures in
    let leads = c.loop-end.invariant.leads in
    line_refused old c.loop-end.self piece rest (take n rest) n c.in-Refused.fault leads found.0.high found.1 refl c.in-Refused.ensures

pub begin_line-requires : goal.begin_line-requires
begin_line-requires c =
    let rest = c.loop-end.rest.now in
    subst NoFeed (take-length rest) (no_feed_before rest (length rest) c.in_default.ensures)

pub returns-in-Err-clause-fed : goal.returns-in-Err-clause-fed
returns-in-Err-clause-fed c = λ used.
    let at : ℕ = used + (length c.args.piece.now - length c.loop-end.rest.now) in
    subst (Stops c.in-Err.fault) (sym (c.loop-end.invariant.leads used)) (c.in-Err.ensures.err at)
