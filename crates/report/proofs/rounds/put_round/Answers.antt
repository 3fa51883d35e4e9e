use Rattle.std.proofs.lemmas.Result.{err_from_is_err_and}
use Rattle.lift_io.proofs.Writing.{piece_at, front_at, last_piece, nothing_yet}
use Rattle.script_model.specs.Rounds.{round_text}
use Rattle.report.proofs.rounds.put_round.Goals as goal

pub returns-in_err-put_power-clause-text : goal.returns-in_err-put_power-clause-text
unfolding round_text
returns-in_err-put_power-clause-text g c =
    let failed = err_from_is_err_and c.from_residual.result c.from_residual.ensures.1 in
    rw failed.1 (front_at _ _ _ (nothing_yet _ _) c.in_err-put_power.ensures.text)

pub returns-in_err-put_turn-clause-text : goal.returns-in_err-put_turn-clause-text
unfolding round_text
returns-in_err-put_turn-clause-text g c =
    let failed = err_from_is_err_and c.from_residual-in_err-put_turn.result c.from_residual-in_err-put_turn.ensures.1 in
    let begun = piece_at _ _ _ (nothing_yet _ _) c.in_ok-put_power.ensures.text in
    rw failed.1 (front_at _ _ _ begun c.in_err-put_turn.ensures.text)

pub returns-clause-text : goal.returns-clause-text
unfolding round_text
returns-clause-text g c =
    let begun = piece_at _ _ _ (nothing_yet _ _) c.in_ok-put_power.ensures.text in
    last_piece _ c.put_turn-2.result (piece_at _ _ _ begun c.in_ok-put_turn.ensures.text) c.put_turn-2.ensures.text
