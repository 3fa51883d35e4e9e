use Rattle.std.proofs.Common.{◌≡◌, ◌∙◌, List, length, refl, ap, sym, arith}
use Rattle.contactor_pair.specs.Settles.{PathData}
use Rattle.core_model.specs.Supplies.{GivenData}
use Rattle.level_guard.specs.Supplies.{SuppliesData}
use Rattle.level_guard.proofs.SupplyLemmas.{supplies-length}
use Rattle.replay_engine.specs.Engines.{run_of}
use Rattle.lift_run.specs.Records.{RunData}
use Rattle.script_model.specs.Judging.{ScriptData}
use Rattle.script_model.specs.SupplyReport.{supply_text}
use Rattle.lift_making.specs.Levelled.{given_over}
use Rattle.lift_making.proofs.WholeRuns.{path_is_whole}
use Rattle.lift_making.proofs.level.level.Goals as goal

pub give_over-requires : goal.give_over-requires
give_over-requires g c =
    let engine = c.in_ok-engine.engine in
    let script = c.args.script in
    let same : c.path.result.now ≡ (run_of engine).path = c.path.ensures ∙ ap (λ (r : RunData). r.path) c.run.ensures.run in
    let ticks : length c.path.result.now.settled ≡ length script.inputs =
    ap (λ (p : PathData). length p.settled) same ∙ path_is_whole _ script _ _ c.in_ok-engine.ensures.ran in
    let inputs : length c.script-2.result.now.inputs ≡ length script.inputs =
    ap (λ (s : ScriptData). length s.inputs) (c.script-2.ensures ∙ c.in_ok-engine.ensures.script) in
    let room : c.in_ok-supplies.supplies.room ≡ c.len.result = ap (λ (s : SuppliesData). s.room) c.in_ok-supplies.ensures in
    let trace : length c.trace.result.now.inputs ≡ length script.inputs = ap length c.trace.ensures in
    record {
      inputs = omega (arith, ticks, inputs);
      empty = ap (λ (s : SuppliesData). s.given) c.in_ok-supplies.ensures;
      room = omega (arith, ticks, room, c.len.ensures.value, trace);
    }

pub returns : goal.returns
returns g c =
    let engine = c.in_ok-engine.engine in
    let script = c.args.script in
    let run = c.into_run.result in
    let same : run ≡ run_of engine = c.into_run.ensures.run in
    let path : c.path.result.now ≡ run.path =
    c.path.ensures ∙ ap (λ (r : RunData). r.path) (c.run.ensures.run ∙ sym same) in
    let told : c.script-2.result.now ≡ script = c.script-2.ensures ∙ c.in_ok-engine.ensures.script in
    let given : c.give_over.new.supplies.given ≡ given_over script run =
    c.give_over.ensures ∙ (rw (told, path) refl) in
    record {
      makes = (
        rw same c.in_ok-engine.ensures.ran,
        λ whole. ap (λ (xs : List GivenData). supply_text xs run.path.settled) given,
      );
      shown = ap length given ∙ supplies-length script.config script.inputs run.path.settled;
    }
