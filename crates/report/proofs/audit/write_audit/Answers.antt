use Rattle.std.proofs.lemmas.Result.{err_from_is_err_and}
use Rattle.lift_io.proofs.Writing.{piece_at, front_at, last_piece, nothing_yet}
use Rattle.script_model.specs.Audit.{audit_text}
use Rattle.report.proofs.audit.write_audit.Goals as goal

pub returns-in_err-put_genuine-clause-text : goal.returns-in_err-put_genuine-clause-text
unfolding audit_text
returns-in_err-put_genuine-clause-text g c =
    let failed = err_from_is_err_and c.from_residual.result c.from_residual.ensures.1 in
    rw failed.1 (front_at _ _ _ (nothing_yet _ _) c.in_err-put_genuine.ensures.text)

pub returns-in_err-put_oldest-clause-text : goal.returns-in_err-put_oldest-clause-text
unfolding audit_text
returns-in_err-put_oldest-clause-text g c =
    let failed = err_from_is_err_and c.from_residual-in_err-put_oldest.result c.from_residual-in_err-put_oldest.ensures.1 in
    let begun = piece_at _ _ _ (nothing_yet _ _) c.in_ok-put_genuine.ensures.text in
    rw failed.1 (front_at _ _ _ begun c.in_err-put_oldest.ensures.text)

pub returns-in_err-put_unhealthy-clause-text : goal.returns-in_err-put_unhealthy-clause-text
unfolding audit_text
returns-in_err-put_unhealthy-clause-text g c =
    let failed = err_from_is_err_and c.from_residual-in_err-put_unhealthy.result c.from_residual-in_err-put_unhealthy.ensures.1 in
    let begun = piece_at _ _ _ (nothing_yet _ _) c.in_ok-put_genuine.ensures.text in
    rw failed.1 (front_at _ _ _ (piece_at _ _ _ begun c.in_ok-put_oldest.ensures.text) c.in_err-put_unhealthy.ensures.text)

pub returns-clause-text : goal.returns-clause-text
unfolding audit_text
returns-clause-text g c =
    let begun = piece_at _ _ _ (nothing_yet _ _) c.in_ok-put_genuine.ensures.text in
    let told = piece_at _ _ _ begun c.in_ok-put_oldest.ensures.text in
    last_piece _ c.put_totals.result (piece_at _ _ _ told c.in_ok-put_unhealthy.ensures.text) c.put_totals.ensures.text
