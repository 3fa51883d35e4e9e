use Rattle.std.proofs.Common.{◌≡◌, ◌+◌, ◌%◌, List, [], ◌∷◌, ◌++◌, length, sym, ap, ◌∙◌, subst, arith}
use Rattle.lift_model.specs.Records.{InputData, Settings}
use Rattle.script_model.specs.declared.cases.Case.{Case}
use Rattle.script_model.specs.Generated.{generated, generated_settings, input_at, inputs_to}
use Rattle.script_model.specs.Judging.{ScriptData}
use Rattle.script_model.specs.Rules.{KeepsRules}
use Rattle.script_model.proofs.GeneratedRules.{generated_keeps_rules}
use Rattle.script_model.proofs.Generating.{none_yet, long, first_draw, drawn_next, drawn_still, pushed}
use Rattle.node_sim.proofs.generated.load_script.Goals as goal

-- a replay with the settings of a generated script
abbrev with_inputs : List InputData → ScriptData
with_inputs inputs = record { config = generated_settings; inputs = inputs; steps = [] }

pub loop-before-init : goal.loop-before-init
loop-before-init c = record {
  script = c.in_ok-script.ensures ∙ ap (λ (config : Settings). record { config = config; inputs = []; steps = [] }) c.settings.ensures
      ∙ ap with_inputs (sym (none_yet c.args.number));
  drawn = sym (first_draw c.args.number);
}

pub push-requires-clause-room : goal.push-requires-clause-room
push-requires-clause-room c =
    let ticks = ap (λ (s : ScriptData). s.config.ticks) c.loop-before.invariant.script in
    let taken = ap (λ (s : ScriptData). length s.inputs) c.loop-before.invariant.script ∙ long c.args.number c.loop-before.before in
    omega (arith, ticks, taken)

pub push-requires-clause-no_steps : goal.push-requires-clause-no_steps
push-requires-clause-no_steps c = ap (λ (s : ScriptData). s.steps) c.loop-before.invariant.script

pub loop-before-preserved : goal.loop-before-preserved
loop-before-preserved c =
    let number = c.args.number in
    let before = c.loop-before.before in
    let so = c.loop-before.invariant in
    let drawn = c.drawn_at-drawn.ensures ∙ drawn_next number before c.loop-before.drawn so.drawn in
    let input = c.input_at.ensures ∙ ap (λ (case : Case). input_at case (before % 200) (before + 1)) c.case_of.ensures in
    record {
      script = c.push.ensures
          ∙ ap (λ (s : ScriptData). record { config = s.config; inputs = s.inputs ++ c.input_at.result ∷ []; steps = s.steps }) so.script
          ∙ ap (λ (x : InputData). with_inputs (inputs_to number before ++ x ∷ [])) input
          ∙ ap with_inputs (sym (pushed number before c.drawn_at-drawn.result drawn));
      drawn = drawn ∙ drawn_still number before c.loop-before.drawn so.drawn;
    }

-- in the end it is the generated script
pub returns-clause-script : goal.returns-clause-script
unfolding generated
returns-clause-script c =
    let end : c.loop-before.before ≡ 50000 = omega arith in
    c.loop-before.invariant.script ∙ ap (λ n. with_inputs (inputs_to c.args.number n)) end

pub returns-clause-rules : goal.returns-clause-rules
unfolding generated
returns-clause-rules c = λ places.
    let end : c.loop-before.before ≡ 50000 = omega arith in
    let is = c.loop-before.invariant.script ∙ ap (λ n. with_inputs (inputs_to c.args.number n)) end in
    subst (KeepsRules places) (sym is) (generated_keeps_rules places c.args.number)
