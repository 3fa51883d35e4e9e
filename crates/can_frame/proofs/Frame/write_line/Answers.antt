use Rattle.std.proofs.Common.{◌++◌, codes}
use Rattle.std.specs.List.{flat_map}
use Rattle.std.proofs.lemmas.Result.{err_from_is_err_and}
use Rattle.lift_io.proofs.Writing.{piece_at, front_at, last_piece, nothing_yet}
use Rattle.can_frame.specs.Spelling.{hex2, hex3}
use Rattle.can_frame.proofs.Frame.write_line.Goals as goal

pub returns-in_err-put_id-clause-text : goal.returns-in_err-put_id-clause-text
returns-in_err-put_id-clause-text g c =
    let failed = err_from_is_err_and c.from_residual.result c.from_residual.ensures.1 in
    let id = hex3 c.args.self.now.id ++ codes "#" in
    let pairs = flat_map hex2 c.args.self.now.bytes in
    rw failed.1 (front_at _ id pairs (nothing_yet _ (id ++ pairs)) c.in_err-put_id.ensures.text)

pub returns-clause-text : goal.returns-clause-text
returns-clause-text g c =
    let id = hex3 c.args.self.now.id ++ codes "#" in
    let pairs = flat_map hex2 c.args.self.now.bytes in
    last_piece _ c.put_data.result (piece_at _ id pairs (nothing_yet _ (id ++ pairs)) c.in_ok-put_id.ensures.text) c.put_data.ensures.text
