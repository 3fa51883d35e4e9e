use Rattle.std.proofs.Common.{arith, ap, subst}
use Rattle.std.specs.List.{flat_map}
use Rattle.std.proofs.lemmas.List.{drop_more}
use Rattle.std.proofs.lemmas.Result.{err_from_is_err_and}
use Rattle.lift_io.specs.Puts.{AppendsUpTo}
use Rattle.lift_io.proofs.Writing.{piece_at, front_at}
use Rattle.can_frame.specs.Spelling.{hex2}
use Rattle.can_frame.proofs.writing.put_pairs.Goals as goal

pub returns-in_err-put-clause-text : goal.returns-in_err-put-clause-text
returns-in_err-put-clause-text g c =
    let p = err_from_is_err_and c.from_residual.result c.from_residual.ensures.1 in
    let bytes = c.args.bytes.now in
    let rest = ap (flat_map hex2) (drop_more bytes c.loop-byte.byte-index 0 c.loop-byte-test.true) in
    let so_far = subst (AppendsUpTo _ _ (flat_map hex2 bytes)) rest c.loop-byte.invariant.text in
    rw p.1 (front_at _ _ _ so_far (rw c.hex_byte.ensures at c.in_err-put.ensures.text))

pub loop-byte-preserved : goal.loop-byte-preserved
loop-byte-preserved g c =
    let bytes = c.args.bytes.now in
    let rest = ap (flat_map hex2) (drop_more bytes c.loop-byte.byte-index 0 c.loop-byte-test.true) in
    let so_far = subst (AppendsUpTo _ _ (flat_map hex2 bytes)) rest c.loop-byte.invariant.text in
    record {
      text = piece_at _ _ _ so_far (rw c.hex_byte.ensures at c.in_ok-put.ensures.text);
      calm = omega (arith, c.in_ok-put.ensures.cause.calm);
    }
