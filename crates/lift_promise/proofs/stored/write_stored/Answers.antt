use Rattle.std.proofs.lemmas.Result.{err_from_is_err_and}
use Rattle.lift_io.proofs.Writing.{piece_at, front_at, last_piece, nothing_yet}
use Rattle.lift_promise.proofs.stored.write_stored.Goals as goal

pub returns-in_err-write_report-clause-text : goal.returns-in_err-write_report-clause-text
returns-in_err-write_report-clause-text g c =
    let failed = err_from_is_err_and c.from_residual.result c.from_residual.ensures.1 in
    rw failed.1 (front_at _ _ _ (nothing_yet _ _) c.in_err-write_report.ensures.text)

pub returns-clause-text : goal.returns-clause-text
returns-clause-text g c =
    let begun = piece_at _ _ _ (nothing_yet _ _) c.in_ok-write_report.ensures.text in
    last_piece _ c.put_count.result begun c.put_count.ensures.text
