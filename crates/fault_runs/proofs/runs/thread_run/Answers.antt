use Rattle.std.proofs.Common.{◌≡◌, ◌∙◌, length, ap, take, arith}
use Rattle.std.proofs.lemmas.List.{take_all}
use Rattle.script_model.specs.Judging.{ScriptData}
use Rattle.replay_engine.specs.Engines.{ticks_run, script_of}
use Rattle.fault_runs.proofs.ThreadLemmas.{none_of_none, whole_run}
use Rattle.fault_runs.proofs.runs.thread_run.Goals as goal

pub returns : goal.returns
returns g c =
    let script = c.args.script in
    let engine = c.run_all.new.self in
    let stands = c.run_all.ensures.stands _ _ c.in-Ok.ensures.stands in
    let long : length (script_of c.in-Ok.engine).inputs ≡ length script.inputs =
    ap (λ (s : ScriptData). length s.inputs) c.in-Ok.ensures.stands.same in
    let all : ticks_run engine ≡ length script.inputs = omega (arith, long, c.run_all.ensures.ticks, c.in-Ok.ensures.start) in
    let whole : take (ticks_run engine) script.inputs ≡ script.inputs =
    ap (λ n. take n script.inputs) all ∙ take_all (length script.inputs) script.inputs (omega arith) in
    whole_run script.config _ script.inputs _ c.into_run.result _ c.into_run.ensures.run whole
    (none_of_none _ _ _ c.of-crew.ensures.plans c.new.ensures.items) (c.into_run.ensures.lawful _ _ stands)
