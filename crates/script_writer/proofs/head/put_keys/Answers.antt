use Rattle.std.proofs.Common.{arith, refl}
use Rattle.std.proofs.lemmas.Result.{err_from_is_err_and}
use Rattle.script_writer.proofs.Puts.{piece_is, front_is, texts_more}
use Rattle.script_model.specs.Text.{key_text}
use Rattle.script_writer.proofs.head.put_keys.Goals as goal

pub returns-in_err-put_key-clause-text : goal.returns-in_err-put_key-clause-text
returns-in_err-put_key-clause-text g c =
    let failed = err_from_is_err_and c.from_residual.result c.from_residual.ensures.1 in
    let rest = texts_more key_text c.args.keys.now c.loop-key.key-index _ _ c.loop-key-test.true refl in
    rw failed.1 (front_is _ _ _ rest c.loop-key.invariant.text c.in_err-put_key.ensures.text)

pub loop-key-preserved : goal.loop-key-preserved
loop-key-preserved g c =
    let rest = texts_more key_text c.args.keys.now c.loop-key.key-index _ _ c.loop-key-test.true refl in
    record {
      text = piece_is _ _ _ rest c.loop-key.invariant.text c.in_ok-put_key.ensures.text;
      calm = omega (arith, c.in_ok-put_key.ensures.cause.calm);
    }
