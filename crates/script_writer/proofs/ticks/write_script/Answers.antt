use Rattle.std.proofs.Common.{◌++◌, codes, replicate}
use Rattle.std.proofs.lemmas.Result.{err_from_is_err_and}
use Rattle.lift_base.specs.declared.TheConstants.{SOURCES}
use Rattle.lift_io.proofs.Writing.{piece_at, front_at, last_piece, nothing_yet}
use Rattle.script_model.specs.Text.{head_text, ticks_text, script_text}
use Rattle.script_writer.proofs.ticks.write_script.Goals as goal

pub returns-in_err-put_head-clause-text : goal.returns-in_err-put_head-clause-text
unfolding script_text
returns-in_err-put_head-clause-text g c =
    let failed = err_from_is_err_and c.from_residual.result c.from_residual.ensures.1 in
    let head = head_text c.args.script.now.config in
    let ticks = ticks_text (record { a = 0; b = 0 }) (replicate SOURCES 0) c.args.script.now.inputs in
    let wrote = rw c.config.ensures at c.in_err-put_head.ensures.text in
    rw failed.1 (front_at _ head (codes "%%\n" ++ (ticks ++ codes "e\n")) (nothing_yet _ _) wrote)

pub returns-in_err-put-clause-text : goal.returns-in_err-put-clause-text
unfolding script_text
returns-in_err-put-clause-text g c =
    let failed = err_from_is_err_and c.from_residual-in_err-put.result c.from_residual-in_err-put.ensures.1 in
    let head = head_text c.args.script.now.config in
    let ticks = ticks_text (record { a = 0; b = 0 }) (replicate SOURCES 0) c.args.script.now.inputs in
    let wrote = rw c.config.ensures at c.in_ok-put_head.ensures.text in
    let one = piece_at _ head (codes "%%\n" ++ (ticks ++ codes "e\n")) (nothing_yet _ _) wrote in
    rw failed.1 (front_at _ (codes "%%\n") (ticks ++ codes "e\n") one c.in_err-put.ensures.text)

pub returns-in_err-put_ticks-clause-text : goal.returns-in_err-put_ticks-clause-text
unfolding script_text
returns-in_err-put_ticks-clause-text g c =
    let failed = err_from_is_err_and c.from_residual-in_err-put_ticks.result c.from_residual-in_err-put_ticks.ensures.1 in
    let head = head_text c.args.script.now.config in
    let ticks = ticks_text (record { a = 0; b = 0 }) (replicate SOURCES 0) c.args.script.now.inputs in
    let wrote = rw c.config.ensures at c.in_ok-put_head.ensures.text in
    let one = piece_at _ head (codes "%%\n" ++ (ticks ++ codes "e\n")) (nothing_yet _ _) wrote in
    let two = piece_at _ (codes "%%\n") (ticks ++ codes "e\n") one c.in_ok-put.ensures.text in
    rw failed.1 (front_at _ ticks (codes "e\n") two (rw c.trace.ensures at c.in_err-put_ticks.ensures.text))

pub returns-clause-text : goal.returns-clause-text
unfolding script_text
returns-clause-text g c =
    let head = head_text c.args.script.now.config in
    let ticks = ticks_text (record { a = 0; b = 0 }) (replicate SOURCES 0) c.args.script.now.inputs in
    let wrote = rw c.config.ensures at c.in_ok-put_head.ensures.text in
    let one = piece_at _ head (codes "%%\n" ++ (ticks ++ codes "e\n")) (nothing_yet _ _) wrote in
    let two = piece_at _ (codes "%%\n") (ticks ++ codes "e\n") one c.in_ok-put.ensures.text in
    let three = piece_at _ ticks (codes "e\n") two (rw c.trace.ensures at c.in_ok-put_ticks.ensures.text) in
    last_piece _ c.put-2.result three c.put-2.ensures.text
