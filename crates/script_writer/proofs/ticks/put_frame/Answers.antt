use Rattle.std.proofs.Common.{◌++◌, codes}
use Rattle.std.proofs.lemmas.Result.{err_from_is_err_and}
use Rattle.lift_io.proofs.Writing.{piece_at, front_at, last_piece, nothing_yet}
use Rattle.can_frame.specs.Spelling.{frame_text}
use Rattle.script_writer.proofs.ticks.put_frame.Goals as goal

pub returns-in_err-put-clause-text : goal.returns-in_err-put-clause-text
returns-in_err-put-clause-text g c =
    let failed = err_from_is_err_and c.from_residual.result c.from_residual.ensures.1 in
    let frame = frame_text c.args.frame.now in
    rw failed.1 (front_at _ (codes "f ") (frame ++ codes "\n") (nothing_yet _ _) c.in_err-put.ensures.text)

pub returns-in_err-write_line-clause-text : goal.returns-in_err-write_line-clause-text
returns-in_err-write_line-clause-text g c =
    let failed = err_from_is_err_and c.from_residual-in_err-write_line.result c.from_residual-in_err-write_line.ensures.1 in
    let frame = frame_text c.args.frame.now in
    let begun = piece_at _ (codes "f ") (frame ++ codes "\n") (nothing_yet _ _) c.in_ok-put.ensures.text in
    rw failed.1 (front_at _ frame (codes "\n") begun c.in_err-write_line.ensures.text)

pub returns-clause-text : goal.returns-clause-text
returns-clause-text g c =
    let frame = frame_text c.args.frame.now in
    let begun = piece_at _ (codes "f ") (frame ++ codes "\n") (nothing_yet _ _) c.in_ok-put.ensures.text in
    last_piece _ c.put-2.result (piece_at _ frame (codes "\n") begun c.in_ok-write_line.ensures.text) c.put-2.ensures.text
