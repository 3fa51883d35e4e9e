use Rattle.std.proofs.Common.{Some, get_or, ◌-◌, ◌≤◌, refl, ap, ◌∙◌, subst, arith, length, List, [], ◌≡◌, ◌+◌, ℕ}
use Rattle.std.proofs.lemmas.List.{length_push}
use Rattle.lift_model.specs.Trace.{identifiers}
use Rattle.lift_model.specs.Records.{Settings, InputData}
use Rattle.std.specs.Prelude.{slice_get}
use Rattle.lift_model.specs.Truth.{true_word}
use Rattle.node_sim.specs.Produced.{frames_due, produced, produced_script}
use Rattle.node_sim.specs.Standing.{Stand}
use Rattle.script_model.specs.Judging.{ScriptData}
use Rattle.node_sim.proofs.TickFrames.{same_script, word_is, made_of, produced_more, produced_end}
use Rattle.node_sim.proofs.producing.produce.Goals as goal

pub loop-n-init : goal.loop-n-init
loop-n-init c =
    let config : c.config.result.now ≡ c.args.script.now.config = c.config.ensures in
    let made : c.in-Ok.made ≡ record { config = c.config.result.now; inputs = []; steps = [] } = c.in-Ok.ensures in
    record {
      config = ap (λ (s : ScriptData). s.config) made ∙ config;
      steps = ap (λ (s : ScriptData). s.steps) made;
      many = ap (λ (s : ScriptData). length s.inputs) made;
      all = rw (ap (λ (s : ScriptData). s.inputs) made) refl;
      stand = subst (λ (k : Settings). Stand c.new-producers.result k c.args.cycle c.args.script.now.inputs 0) config
          (c.new-producers.ensures c.args.script.now.inputs);
    }

pub push-requires-clause-no_steps : goal.push-requires-clause-no_steps
push-requires-clause-no_steps c = c.loop-n.invariant.steps

pub loop-n-preserved : goal.loop-n-preserved
loop-n-preserved c =
    let all : List InputData = c.args.script.now.inputs in
    let config : Settings = c.args.script.now.config in
    let n : ℕ = c.loop-n.n in
    let x : InputData = c.get-input.result.now in
    let back : n + 1 - 1 ≡ n = omega arith in
    let e : Some x ≡ slice_get all n = c.get-input.ensures
    ∙ (ap (λ xs. slice_get xs (n + 1 - 1)) c.trace-in-loop-n.ensures ∙ ap (slice_get all) back) in
    let words : (i : ℕ) → get_or c.input.inside.truth i 0 ≡ true_word all i (n + 1) =
    λ i. ap (λ (v : InputData). get_or v.truth i 0) c.input.view_is ∙ word_is all n i x e in
    let t = c.tick-frames.ensures config c.args.cycle all n c.loop-n.invariant.stand words in
    let y : InputData = record {
      frames = c.tick-frames.result;
      words = record { a = c.input.inside.a; b = c.input.inside.b };
      truth =
          c.input.inside.truth;
      faults = c.no_faults.result;
    } in
    let is = made_of x c.input.inside.a c.input.inside.b c.input.inside.truth c.tick-frames.result c.input.inside.frames
    c.input.inside.faults c.no_faults.result c.input.view_is
    (frames_due c.args.cycle all (n + 1) 0 (identifiers config)) t.0 c.no_faults.ensures in
    record {
      config = ap (λ (s : ScriptData). s.config) c.push.ensures ∙ c.loop-n.invariant.config;
      steps = ap (λ (s : ScriptData). s.steps) c.push.ensures ∙ c.loop-n.invariant.steps;
      many = omega (
        arith,
        ap
            (λ (s : ScriptData). length s.inputs) c.push.ensures,
        length_push c.loop-n.made.inputs y,
        c.loop-n.invariant.many,
      );
      all = rw (ap (λ (s : ScriptData). s.inputs) c.push.ensures)
          (produced_more c.args.cycle (identifiers config) all c.loop-n.made.inputs
          (produced config c.args.cycle all) n x y e is c.loop-n.invariant.all);
      stand = t.1;
    }

pub returns : goal.returns
returns c =
    let all : List InputData = c.args.script.now.inputs in
    let config : Settings = c.args.script.now.config in
    let last : length all ≤ c.loop-n.n = omega (arith, c.loop-n-test.false, c.len-n-end.ensures.value, ap length c.trace.ensures) in
    let inputs : c.loop-n.made.inputs ≡ produced config c.args.cycle all =
    produced_end c.args.cycle (identifiers config) all c.loop-n.made.inputs
    (produced config c.args.cycle all) c.loop-n.n last c.loop-n.invariant.all in
    same_script c.loop-n.made (produced_script c.args.cycle c.args.script.now) c.loop-n.invariant.config inputs c.loop-n.invariant.steps
