use Rattle.std.proofs.Common.{ℕ, List, ◌≤◌, arith, rules, length, drop, ◌+◌, ◌++◌, sym, ◌∙◌, ap, subst}
use Rattle.std.proofs.lemmas.Result.{err_from_is_err_and}
use Rattle.lift_io.specs.Puts.{AppendsUpTo}
use Rattle.lift_io.proofs.Writing.{last_piece}
use Rattle.lift_model.specs.Records.{WireWords, InputData}
use Rattle.script_writer.proofs.Puts.{piece_is, front_is}
use Rattle.can_log.specs.RunsText.{ticks_part, lines_text, runs_text}
use Rattle.can_log.proofs.Runs.{quiet_more, other_more, runs_end}
use Rattle.can_log.proofs.writing.put_runs.Goals as goal
use Rattle.can_log.proofs.writing.put_runs.Goals.{then-is_quiet, else-is_quiet+in_ok-put_tick}

pub returns-in_err-put_tick-clause-text : goal.returns-in_err-put_tick-clause-text
returns-in_err-put_tick-clause-text g c =
    let failed = err_from_is_err_and c.from_residual.result c.from_residual.ensures.1 in
    let before : WireWords = record { a = c.loop-i.words.a; b = c.loop-i.words.b } in
    let rest = other_more before c.loop-i.n c.args.trace.now.inputs c.loop-i.i c.get-input.result.now (search rules) c.get-input.ensures
    (sym c.is_quiet.ensures ∙ c.if-is_quiet.false) in
    rw failed.1 (front_is _ _ _ rest c.loop-i.invariant.text c.in_err-put_tick.ensures.text)

pub loop-i-preserved : goal.loop-i-preserved
loop-i-preserved g c =
    let before : WireWords = record { a = c.loop-i.words.a; b = c.loop-i.words.b } in
    let inputs = c.args.trace.now.inputs in
    let x : InputData = c.get-input.result.now in
    let n : ℕ = c.loop-i.n in
    elim c.if-is_quiet.branch [
      | then-is_quiet w ↦
          let rest = quiet_more before n inputs c.loop-i.i x
          (search rules) c.get-input.ensures (sym c.is_quiet.ensures ∙ w.if-is_quiet.true) in
          rw (w.sink-is, w.words-is, w.n-is) (record {
            text = subst (AppendsUpTo _ _ _) rest c.loop-i.invariant.text;
            calm = c.loop-i.invariant.calm;
            few = omega (arith, c.loop-i.invariant.few);
          })
      | else-is_quiet+in_ok-put_tick w ↦
          let next : WireWords = record { a = w.behind-words.result.a; b = w.behind-words.result.b } in
          let rest = other_more before n inputs c.loop-i.i x
          (search rules) c.get-input.ensures (sym c.is_quiet.ensures ∙ w.if-is_quiet.false)
          ∙ ap (λ (v : WireWords). (ticks_part n ++ lines_text before x) ++ runs_text v 1 (drop (c.loop-i.i + 1) inputs))
          (sym w.behind-words.ensures) in
          rw (w.sink-is, w.words-is, w.n-is) (record {
            text = piece_is _ _ _ rest c.loop-i.invariant.text w.in_ok-put_tick.ensures.text;
            calm = omega (arith, w.in_ok-put_tick.ensures.cause.calm, c.loop-i.invariant.calm);
            few = omega arith;
          })
    ]

pub returns-clause-text : goal.returns-clause-text
returns-clause-text g c =
    let before : WireWords = record { a = c.loop-i.words.a; b = c.loop-i.words.b } in
    let inputs : List InputData = c.args.trace.now.inputs in
    let past : length inputs ≤ c.loop-i.i = omega (arith, c.loop-i-test.false, c.len-i-end.ensures.value) in
    let rest = runs_end before c.loop-i.n inputs c.loop-i.i past in
    last_piece _ c.put_ticks_line.result (subst (AppendsUpTo _ _ _) rest c.loop-i.invariant.text) c.put_ticks_line.ensures.text
