use Rattle.std.proofs.lemmas.Result.{err_from_is_err_and}
use Rattle.lift_io.proofs.Writing.{piece_at, front_at, last_piece, nothing_yet}
use Rattle.lift_model.specs.Records.{WireWords}
use Rattle.can_log.specs.RunsText.{ticks_part, lines_text}
use Rattle.can_log.proofs.writing.Words.put_tick.Goals as goal

pub returns-in_err-put_ticks_line-clause-text : goal.returns-in_err-put_ticks_line-clause-text
returns-in_err-put_ticks_line-clause-text g c =
    let failed = err_from_is_err_and c.from_residual.result c.from_residual.ensures.1 in
    let before : WireWords = record { a = c.args.self.a; b = c.args.self.b } in
    rw failed.1 (front_at _ (ticks_part c.args.n) (lines_text before c.args.input.now) (nothing_yet _ _)
    c.in_err-put_ticks_line.ensures.text)

pub returns-clause-text : goal.returns-clause-text
returns-clause-text g c =
    let before : WireWords = record { a = c.args.self.a; b = c.args.self.b } in
    let one = piece_at _ (ticks_part c.args.n) (lines_text before c.args.input.now) (nothing_yet _ _)
    c.in_ok-put_ticks_line.ensures.text in
    last_piece _ c.put_lines.result one c.put_lines.ensures.text
