use Rattle.std.proofs.Common.{arith, rules}
use Rattle.std.proofs.lemmas.Result.{err_from_is_err_and}
use Rattle.lift_model.specs.Records.{WireWords}
use Rattle.script_writer.proofs.Puts.{piece_is, front_is, ticks_more, ticks_step}
use Rattle.script_writer.proofs.ticks.put_ticks.Goals as goal

pub returns-in_err-put_tick-clause-text : goal.returns-in_err-put_tick-clause-text
returns-in_err-put_tick-clause-text g c =
    let failed = err_from_is_err_and c.from_residual.result c.from_residual.ensures.1 in
    let words : WireWords = record { a = c.loop-i.standing.a; b = c.loop-i.standing.b } in
    let truth = c.loop-i.standing.truth in
    let inputs = c.args.trace.now.inputs in
    let rest = ticks_more words truth inputs c.loop-i.i c.get-input.result.now (search rules) c.get-input.ensures in
    rw failed.1 (front_is _ _ _ rest c.loop-i.invariant.text c.in_err-put_tick.ensures.text)

pub loop-i-preserved : goal.loop-i-preserved
loop-i-preserved g c =
    let words : WireWords = record { a = c.loop-i.standing.a; b = c.loop-i.standing.b } in
    let next : WireWords = record { a = c.behind-standing.result.a; b = c.behind-standing.result.b } in
    let rest = ticks_step words next c.loop-i.standing.truth c.behind-standing.result.truth
    c.args.trace.now.inputs c.loop-i.i c.get-input.result.now (search rules) c.get-input.ensures
    c.behind-standing.ensures.words c.behind-standing.ensures.truth in
    record {
      text = piece_is _ _ _ rest c.loop-i.invariant.text c.in_ok-put_tick.ensures.text;
      calm = omega (arith, c.in_ok-put_tick.ensures.cause.calm);
    }
