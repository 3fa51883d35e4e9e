use Rattle.std.proofs.lemmas.Result.{err_from_is_err_and}
use Rattle.lift_io.proofs.Writing.{piece_at, front_at, last_piece, nothing_yet}
use Rattle.script_model.specs.Summary.{summary_text}
use Rattle.report.proofs.summary.write_summary.Goals as goal

pub returns-in_err-put_number-clause-text : goal.returns-in_err-put_number-clause-text
unfolding summary_text
returns-in_err-put_number-clause-text g c =
    let failed = err_from_is_err_and c.from_residual.result c.from_residual.ensures.1 in
    rw failed.1 (front_at _ _ _ (nothing_yet _ _) c.in_err-put_number.ensures.text)

pub returns-clause-text : goal.returns-clause-text
unfolding summary_text
returns-clause-text g c =
    let begun = piece_at _ _ _ (nothing_yet _ _) c.in_ok-put_number.ensures.text in
    last_piece _ c.put_totals.result begun c.put_totals.ensures.text
