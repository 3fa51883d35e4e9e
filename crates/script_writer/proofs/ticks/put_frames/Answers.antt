use Rattle.std.proofs.Common.{arith}
use Rattle.std.proofs.lemmas.Result.{err_from_is_err_and}
use Rattle.script_writer.proofs.Puts.{piece_is, front_is, frames_more}
use Rattle.script_writer.proofs.ticks.put_frames.Goals as goal

pub returns-in_err-put_frame-clause-text : goal.returns-in_err-put_frame-clause-text
returns-in_err-put_frame-clause-text g c =
    let failed = err_from_is_err_and c.from_residual.result c.from_residual.ensures.1 in
    let rest = frames_more c.args.frames.now c.loop-i.i _ c.index-frames-i.result c.loop-i-test.true c.index-frames-i.is in
    rw failed.1 (front_is _ _ _ rest c.loop-i.invariant.text c.in_err-put_frame.ensures.text)

pub loop-i-preserved : goal.loop-i-preserved
loop-i-preserved g c =
    let rest = frames_more c.args.frames.now c.loop-i.i _ c.index-frames-i.result c.loop-i-test.true c.index-frames-i.is in
    record {
      text = piece_is _ _ _ rest c.loop-i.invariant.text c.in_ok-put_frame.ensures.text;
      calm = omega (arith, c.in_ok-put_frame.ensures.cause.calm);
    }
