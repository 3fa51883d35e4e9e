use Rattle.std.proofs.Common.{◌++◌, codes}
use Rattle.std.proofs.lemmas.Result.{err_from_is_err_and}
use Rattle.lift_io.proofs.Writing.{piece_at, front_at, last_piece, nothing_yet}
use Rattle.script_model.specs.Text.{frames_text, wires_part, truth_part, faults_text}
use Rattle.script_writer.proofs.ticks.Standing.put_tick.Goals as goal

pub returns-in_err-put_frames_of-clause-text : goal.returns-in_err-put_frames_of-clause-text
returns-in_err-put_frames_of-clause-text g c =
    let failed = err_from_is_err_and c.from_residual.result c.from_residual.ensures.1 in
    let frames = frames_text c.args.input.now.frames in
    let wires = wires_part (record { a = c.args.self.now.a; b = c.args.self.now.b }) c.args.input.now.words in
    let truths = truth_part 1 c.args.self.now.truth c.args.input.now.truth in
    let faults = faults_text c.args.input.now.faults in
    rw failed.1 (front_at _ frames (wires ++ (truths ++ (faults ++ codes "t\n"))) (nothing_yet _ _) c.in_err-put_frames_of.ensures.text)

pub returns-in_err-put_wires-clause-text : goal.returns-in_err-put_wires-clause-text
returns-in_err-put_wires-clause-text g c =
    let failed = err_from_is_err_and c.from_residual-in_err-put_wires.result c.from_residual-in_err-put_wires.ensures.1 in
    let frames = frames_text c.args.input.now.frames in
    let wires = wires_part (record { a = c.args.self.now.a; b = c.args.self.now.b }) c.args.input.now.words in
    let truths = truth_part 1 c.args.self.now.truth c.args.input.now.truth in
    let faults = faults_text c.args.input.now.faults in
    let one = piece_at _ frames (wires ++ (truths ++ (faults ++ codes "t\n"))) (nothing_yet _ _) c.in_ok-put_frames_of.ensures.text in
    rw failed.1 (front_at _ wires (truths ++ (faults ++ codes "t\n")) one c.in_err-put_wires.ensures.text)

pub returns-in_err-put_truths-clause-text : goal.returns-in_err-put_truths-clause-text
returns-in_err-put_truths-clause-text g c =
    let failed = err_from_is_err_and c.from_residual-in_err-put_truths.result c.from_residual-in_err-put_truths.ensures.1 in
    let frames = frames_text c.args.input.now.frames in
    let wires = wires_part (record { a = c.args.self.now.a; b = c.args.self.now.b }) c.args.input.now.words in
    let truths = truth_part 1 c.args.self.now.truth c.args.input.now.truth in
    let faults = faults_text c.args.input.now.faults in
    let one = piece_at _ frames (wires ++ (truths ++ (faults ++ codes "t\n"))) (nothing_yet _ _) c.in_ok-put_frames_of.ensures.text in
    let two = piece_at _ wires (truths ++ (faults ++ codes "t\n")) one c.in_ok-put_wires.ensures.text in
    rw failed.1 (front_at _ truths (faults ++ codes "t\n") two c.in_err-put_truths.ensures.text)

pub returns-in_err-put_faults_of-clause-text : goal.returns-in_err-put_faults_of-clause-text
returns-in_err-put_faults_of-clause-text g c =
    let failed = err_from_is_err_and c.from_residual-in_err-put_faults_of.result c.from_residual-in_err-put_faults_of.ensures.1 in
    let frames = frames_text c.args.input.now.frames in
    let wires = wires_part (record { a = c.args.self.now.a; b = c.args.self.now.b }) c.args.input.now.words in
    let truths = truth_part 1 c.args.self.now.truth c.args.input.now.truth in
    let faults = faults_text c.args.input.now.faults in
    let one = piece_at _ frames (wires ++ (truths ++ (faults ++ codes "t\n"))) (nothing_yet _ _) c.in_ok-put_frames_of.ensures.text in
    let two = piece_at _ wires (truths ++ (faults ++ codes "t\n")) one c.in_ok-put_wires.ensures.text in
    let three = piece_at _ truths (faults ++ codes "t\n") two c.in_ok-put_truths.ensures.text in
    rw failed.1 (front_at _ faults (codes "t\n") three c.in_err-put_faults_of.ensures.text)

pub returns-clause-text : goal.returns-clause-text
returns-clause-text g c =
    let frames = frames_text c.args.input.now.frames in
    let wires = wires_part (record { a = c.args.self.now.a; b = c.args.self.now.b }) c.args.input.now.words in
    let truths = truth_part 1 c.args.self.now.truth c.args.input.now.truth in
    let faults = faults_text c.args.input.now.faults in
    let one = piece_at _ frames (wires ++ (truths ++ (faults ++ codes "t\n"))) (nothing_yet _ _) c.in_ok-put_frames_of.ensures.text in
    let two = piece_at _ wires (truths ++ (faults ++ codes "t\n")) one c.in_ok-put_wires.ensures.text in
    let three = piece_at _ truths (faults ++ codes "t\n") two c.in_ok-put_truths.ensures.text in
    let four = piece_at _ faults (codes "t\n") three c.in_ok-put_faults_of.ensures.text in
    last_piece _ c.put.result four c.put.ensures.text
