use Rattle.std.proofs.Common.{◌≡◌, ◌+◌, ◌-◌, ◌≤◌, ℕ, Some, refl, sym, ap, ◌∙◌, subst, arith, length, List, []}
use Rattle.std.specs.Prelude.{slice_get}
use Rattle.std.proofs.lemmas.List.{length_push}
use Rattle.lift_model.specs.Records.{InputData}
use Rattle.script_model.specs.Faults.{all_stand}
use Rattle.script_model.specs.Judging.{ScriptData}
use Rattle.script_model.specs.Rules.{KeepsRules}
use Rattle.script_model.specs.Valid.{MayFollow}
use Rattle.fault_plan.specs.Made.{inputs_with, script_with}
use Rattle.fault_plan.proofs.KeepLemmas.{keeps_rules, follows}
use Rattle.fault_plan.proofs.MadeLemmas.{with_more, with_end, made_of, same_script}
use Rattle.fault_plan.proofs.making.with_fault.Goals as goal

pub loop-n-init : goal.loop-n-init
loop-n-init c =
    let config : c.config.result.now ≡ c.args.script.now.config = c.config.ensures in
    let made : c.in-Ok.made ≡ record { config = c.config.result.now; inputs = []; steps = [] } = c.in-Ok.ensures in
    record {
      config = ap (λ (s : ScriptData). s.config) made ∙ config;
      steps = ap (λ (s : ScriptData). s.steps) made;
      many = ap (λ (s : ScriptData). length s.inputs) made;
      all = rw (ap (λ (s : ScriptData). s.inputs) made) refl;
    }

pub push-requires-clause-no_steps : goal.push-requires-clause-no_steps
push-requires-clause-no_steps c = c.loop-n.invariant.steps

pub loop-n-preserved : goal.loop-n-preserved
loop-n-preserved c =
    let all : List InputData = c.args.script.now.inputs in
    let n : ℕ = c.loop-n.n in
    let x : InputData = c.get-input.result.now in
    let back : n + 1 - 1 ≡ n = omega arith in
    let e : Some x ≡ slice_get all n = c.get-input.ensures
    ∙ (ap (λ xs. slice_get xs (n + 1 - 1)) c.trace-in-loop-n.ensures ∙ ap (slice_get all) back) in
    let y : InputData = record {
      frames = c.copy.result;
      words = record { a = c.input.inside.a; b = c.input.inside.b };
      truth = c.input.inside.truth;
      faults = c.faults_in.result;
    } in
    let put = made_of x c.input.inside.a c.input.inside.b c.input.inside.truth c.copy.result c.input.inside.frames
    c.input.inside.faults c.faults_in.result c.input.view_is c.copy.ensures in
    let is = put ∙ ap (λ f. record x { faults = f }) c.faults_in.ensures in
    record {
      config = ap (λ (s : ScriptData). s.config) c.push.ensures ∙ c.loop-n.invariant.config;
      steps = ap (λ (s : ScriptData). s.steps) c.push.ensures ∙ c.loop-n.invariant.steps;
      many = omega (
        arith,
        ap (λ (s : ScriptData). length s.inputs) c.push.ensures,
        length_push c.loop-n.made.inputs y,
        c.loop-n.invariant.many,
      );
      all = rw (ap (λ (s : ScriptData). s.inputs) c.push.ensures)
          (with_more c.args.words.now c.args.fault all c.loop-n.made.inputs (inputs_with c.args.words.now c.args.fault 1 all) n x y e is
          c.loop-n.invariant.all);
    }

pub returns-clause-script : goal.returns-clause-script
returns-clause-script c =
    let all : List InputData = c.args.script.now.inputs in
    let last : length all ≤ c.loop-n.n = omega (arith, c.loop-n-test.false, c.len-n-end.ensures.value, ap length c.trace.ensures) in
    let whole = inputs_with c.args.words.now c.args.fault 1 all in
    let inputs = with_end c.args.words.now c.args.fault all c.loop-n.made.inputs whole c.loop-n.n last c.loop-n.invariant.all in
    same_script c.loop-n.made (script_with c.args.words.now c.args.fault c.args.script.now) c.loop-n.invariant.config inputs
    c.loop-n.invariant.steps

pub returns-clause-rules : goal.returns-clause-rules
returns-clause-rules c = λ places.
    let all : List InputData = c.args.script.now.inputs in
    let last : length all ≤ c.loop-n.n = omega (arith, c.loop-n-test.false, c.len-n-end.ensures.value, ap length c.trace.ensures) in
    let whole = inputs_with c.args.words.now c.args.fault 1 all in
    let inputs = with_end c.args.words.now c.args.fault all c.loop-n.made.inputs whole c.loop-n.n last c.loop-n.invariant.all in
    let is = same_script c.loop-n.made (script_with c.args.words.now c.args.fault c.args.script.now) c.loop-n.invariant.config inputs
    c.loop-n.invariant.steps in
    subst (KeepsRules places) (sym is) (keeps_rules places c.args.words.now c.args.fault c.args.script.now c.requires)

pub returns-clause-follow : goal.returns-clause-follow
returns-clause-follow c = λ places.
    let all : List InputData = c.args.script.now.inputs in
    let last : length all ≤ c.loop-n.n = omega (arith, c.loop-n-test.false, c.len-n-end.ensures.value, ap length c.trace.ensures) in
    let whole = inputs_with c.args.words.now c.args.fault 1 all in
    let inputs = with_end c.args.words.now c.args.fault all c.loop-n.made.inputs whole c.loop-n.n last c.loop-n.invariant.all in
    subst (MayFollow (all_stand places)) (sym inputs) (follows places c.args.words.now c.args.fault all c.requires)
