use Rattle.std.proofs.Common.{arith}
use Rattle.std.proofs.lemmas.Result.{err_from_is_err_and}
use Rattle.script_writer.proofs.Puts.{piece_is, front_is, truths_more}
use Rattle.script_writer.proofs.ticks.put_truths.Goals as goal

pub returns-in_err-put_truth-clause-text : goal.returns-in_err-put_truth-clause-text
returns-in_err-put_truth-clause-text g c =
    let failed = err_from_is_err_and c.from_residual.result c.from_residual.ensures.1 in
    let rest = truths_more c.args.before.now c.args.words.now c.loop-i.i c.loop-i-test.true c.requires.same in
    rw failed.1 (front_is _ _ _ rest c.loop-i.invariant.text c.in_err-put_truth.ensures.text)

pub loop-i-preserved : goal.loop-i-preserved
loop-i-preserved g c =
    let rest = truths_more c.args.before.now c.args.words.now c.loop-i.i c.loop-i-test.true c.requires.same in
    record {
      text = piece_is _ _ _ rest c.loop-i.invariant.text c.in_ok-put_truth.ensures.text;
      calm = omega (arith, c.in_ok-put_truth.ensures.cause.calm);
    }
