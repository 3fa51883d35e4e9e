use Rattle.std.proofs.lemmas.Result.{err_from_is_err_and}
use Rattle.lift_io.proofs.Writing.{piece_at, front_at, last_piece, nothing_yet}
use Rattle.lift_model.specs.Records.{WireWords}
use Rattle.script_model.specs.Text.{frames_text, wires_part}
use Rattle.can_log.proofs.writing.Words.put_lines.Goals as goal

pub returns-in_err-put_frames_of-clause-text : goal.returns-in_err-put_frames_of-clause-text
returns-in_err-put_frames_of-clause-text g c =
    let failed = err_from_is_err_and c.from_residual.result c.from_residual.ensures.1 in
    let before : WireWords = record { a = c.args.self.a; b = c.args.self.b } in
    rw failed.1 (front_at _ (frames_text c.args.input.now.frames) (wires_part before c.args.input.now.words) (nothing_yet _ _)
    c.in_err-put_frames_of.ensures.text)

pub returns-clause-text : goal.returns-clause-text
returns-clause-text g c =
    let before : WireWords = record { a = c.args.self.a; b = c.args.self.b } in
    let one = piece_at _ (frames_text c.args.input.now.frames) (wires_part before c.args.input.now.words) (nothing_yet _ _)
    c.in_ok-put_frames_of.ensures.text in
    last_piece _ c.put_wires.result one c.put_wires.ensures.text
