use Rattle.std.proofs.Common.{◌≡◌, ◌+◌, ◌-◌, ◌≤◌, ℕ, Some, ap, ◌∙◌, arith, length, List}
use Rattle.std.specs.Prelude.{slice_get}
use Rattle.std.proofs.lemmas.List.{length_push}
use Rattle.lift_model.specs.Records.{InputData}
use Rattle.script_model.specs.Judging.{ScriptData}
use Rattle.fault_plan.specs.Made.{inputs_reset, script_reset}
use Rattle.fault_plan.proofs.MadeLemmas.{reset_more, reset_end, same_script}
use Rattle.fault_plan.proofs.resetting.with_reset.Goals as goal

pub push-requires-clause-no_steps : goal.push-requires-clause-no_steps
push-requires-clause-no_steps c = c.loop-n.invariant.steps

pub loop-n-preserved : goal.loop-n-preserved
loop-n-preserved c =
    let all : List InputData = c.args.script.now.inputs in
    let n : ℕ = c.loop-n.n in
    let x : InputData = c.get-input.result.now in
    let back : n + 1 - 1 ≡ n = omega arith in
    let e : Some x ≡ slice_get all n = c.get-input.ensures
    ∙ (ap (λ xs. slice_get xs (n + 1 - 1)) c.trace-in-loop-n.ensures ∙ ap (slice_get all) back) in
    record {
      config = ap (λ (s : ScriptData). s.config) c.push.ensures ∙ c.loop-n.invariant.config;
      steps = ap (λ (s : ScriptData). s.steps) c.push.ensures ∙ c.loop-n.invariant.steps;
      many = omega (
        arith,
        ap (λ (s : ScriptData). length s.inputs) c.push.ensures,
        length_push c.loop-n.made.inputs c.input_at.result,
        c.loop-n.invariant.many,
      );
      all = rw (ap (λ (s : ScriptData). s.inputs) c.push.ensures)
          (reset_more c.args.tick all c.loop-n.made.inputs (inputs_reset c.args.tick 1 all) n x c.input_at.result e c.input_at.ensures
          c.loop-n.invariant.all);
    }

pub returns : goal.returns
returns c =
    let all : List InputData = c.args.script.now.inputs in
    let last : length all ≤ c.loop-n.n = omega (arith, c.loop-n-test.false, c.len-n-end.ensures.value, ap length c.trace.ensures) in
    let inputs = reset_end c.args.tick all c.loop-n.made.inputs (inputs_reset c.args.tick 1 all) c.loop-n.n last c.loop-n.invariant.all in
    same_script c.loop-n.made (script_reset c.args.tick c.args.script.now) c.loop-n.invariant.config inputs c.loop-n.invariant.steps
