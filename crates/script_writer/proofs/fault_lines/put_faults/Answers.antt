use Rattle.std.proofs.Common.{ap}
use Rattle.std.proofs.lemmas.Result.{err_from_is_err_and}
use Rattle.lift_base.specs.declared.Side.TheVariants.{A, B}
use Rattle.lift_io.proofs.Writing.{piece_at, front_at, last_piece, nothing_yet}
use Rattle.lift_model.specs.Records.{FaultData}
use Rattle.script_model.specs.Text.{side_text}
use Rattle.script_writer.proofs.fault_lines.put_faults.Goals as goal

pub returns-in_err-put_side-clause-text : goal.returns-in_err-put_side-clause-text
returns-in_err-put_side-clause-text g c =
    let failed = err_from_is_err_and c.from_residual.result c.from_residual.ensures.1 in
    let is_a = ap (λ (f : FaultData). f.a) c.faults.view_is in
    let b = side_text B c.args.faults.b in
    rw failed.1 (front_at _ (side_text A c.args.faults.a) b (nothing_yet _ _) (rw is_a at c.in_err-put_side.ensures.text))

pub returns-clause-text : goal.returns-clause-text
returns-clause-text g c =
    let is_a = ap (λ (f : FaultData). f.a) c.faults.view_is in
    let is_b = ap (λ (f : FaultData). f.b) c.faults.view_is in
    let b = side_text B c.args.faults.b in
    let one = piece_at _ (side_text A c.args.faults.a) b (nothing_yet _ _) (rw is_a at c.in_ok-put_side.ensures.text) in
    last_piece _ c.put_side-2.result one (rw is_b at c.put_side-2.ensures.text)
