use Rattle.std.proofs.Common.{◌++◌}
use Rattle.std.specs.List.{flat_map}
use Rattle.std.proofs.lemmas.Result.{err_from_is_err_and}
use Rattle.lift_io.proofs.Writing.{piece_at, front_at, last_piece, nothing_yet}
use Rattle.script_model.specs.Text.{key_text, first_keys, car_key, last_keys, platform_key, head_text}
use Rattle.script_writer.proofs.head.put_head.Goals as goal

pub returns-in_err-put_keys-clause-text : goal.returns-in_err-put_keys-clause-text
unfolding head_text
returns-in_err-put_keys-clause-text g c =
    let failed = err_from_is_err_and c.from_residual.result c.from_residual.ensures.1 in
    let first = flat_map key_text (first_keys c.args.config.now) in
    let car = flat_map key_text (car_key c.args.config.now.car) in
    let last = flat_map key_text (last_keys c.args.config.now) in
    let platform = flat_map key_text (platform_key c.args.config.now.platform) in
    rw failed.1 (front_at _ first (car ++ (last ++ platform)) (nothing_yet _ _)
    (rw c.first_keys.ensures at c.in_err-put_keys.ensures.text))

pub returns-in_err-put_car-clause-text : goal.returns-in_err-put_car-clause-text
unfolding head_text
returns-in_err-put_car-clause-text g c =
    let failed = err_from_is_err_and c.from_residual-in_err-put_car.result c.from_residual-in_err-put_car.ensures.1 in
    let first = flat_map key_text (first_keys c.args.config.now) in
    let car = flat_map key_text (car_key c.args.config.now.car) in
    let last = flat_map key_text (last_keys c.args.config.now) in
    let platform = flat_map key_text (platform_key c.args.config.now.platform) in
    let one = piece_at _ first (car ++ (last ++ platform)) (nothing_yet _ _)
    (rw c.first_keys.ensures at c.in_ok-put_keys.ensures.text) in
    rw failed.1 (front_at _ car (last ++ platform) one c.in_err-put_car.ensures.text)

pub returns-in_err-put_keys-2-clause-text : goal.returns-in_err-put_keys-2-clause-text
unfolding head_text
returns-in_err-put_keys-2-clause-text g c =
    let failed = err_from_is_err_and c.from_residual-in_err-put_keys-2.result c.from_residual-in_err-put_keys-2.ensures.1 in
    let first = flat_map key_text (first_keys c.args.config.now) in
    let car = flat_map key_text (car_key c.args.config.now.car) in
    let last = flat_map key_text (last_keys c.args.config.now) in
    let platform = flat_map key_text (platform_key c.args.config.now.platform) in
    let one = piece_at _ first (car ++ (last ++ platform)) (nothing_yet _ _)
    (rw c.first_keys.ensures at c.in_ok-put_keys.ensures.text) in
    let two = piece_at _ car (last ++ platform) one c.in_ok-put_car.ensures.text in
    rw failed.1 (front_at _ last platform two (rw c.last_keys.ensures at c.in_err-put_keys-2.ensures.text))

pub returns-clause-text : goal.returns-clause-text
unfolding head_text
returns-clause-text g c =
    let first = flat_map key_text (first_keys c.args.config.now) in
    let car = flat_map key_text (car_key c.args.config.now.car) in
    let last = flat_map key_text (last_keys c.args.config.now) in
    let platform = flat_map key_text (platform_key c.args.config.now.platform) in
    let one = piece_at _ first (car ++ (last ++ platform)) (nothing_yet _ _)
    (rw c.first_keys.ensures at c.in_ok-put_keys.ensures.text) in
    let two = piece_at _ car (last ++ platform) one c.in_ok-put_car.ensures.text in
    let three = piece_at _ last platform two (rw c.last_keys.ensures at c.in_ok-put_keys-2.ensures.text) in
    last_piece _ c.put_platform.result three c.put_platform.ensures.text
