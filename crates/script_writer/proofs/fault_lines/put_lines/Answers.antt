use Rattle.std.proofs.Common.{arith, refl}
use Rattle.std.proofs.lemmas.Result.{err_from_is_err_and}
use Rattle.script_model.specs.Text.{given_text}
use Rattle.script_writer.proofs.Puts.{piece_is, front_is, texts_more}
use Rattle.script_writer.proofs.fault_lines.put_lines.Goals as goal

pub returns-in_err-put_given-clause-text : goal.returns-in_err-put_given-clause-text
returns-in_err-put_given-clause-text g c =
    let failed = err_from_is_err_and c.from_residual.result c.from_residual.ensures.1 in
    let rest = texts_more (given_text c.args.side) c.args.lines.now c.loop-line.line-index _ _ c.loop-line-test.true refl in
    rw failed.1 (front_is _ _ _ rest c.loop-line.invariant.text c.in_err-put_given.ensures.text)

pub loop-line-preserved : goal.loop-line-preserved
loop-line-preserved g c =
    let rest = texts_more (given_text c.args.side) c.args.lines.now c.loop-line.line-index _ _ c.loop-line-test.true refl in
    record {
      text = piece_is _ _ _ rest c.loop-line.invariant.text c.in_ok-put_given.ensures.text;
      calm = omega (arith, c.in_ok-put_given.ensures.cause.calm);
    }
