use Rattle.std.proofs.Common.{◌≡◌, length, ap, arith}
use Rattle.script_model.specs.Judging.{ScriptData}
use Rattle.replay_engine.proofs.EngineLemmas.{engine_lawful}
use Rattle.replay_engine.specs.Engines.{ticks_run, script_of}
use Rattle.lift_making.proofs.WholeRuns.{whole_run}
use Rattle.lift_making.proofs.rounds.run_rounds.Goals as goal

pub returns-clause-ran : goal.returns-clause-ran
returns-clause-ran g c =
    let engine = c.run_all.new.self in
    let stands = c.run_all.ensures.stands _ _ c.in_ok-engine.ensures.stands in
    let long : length (script_of c.in_ok-engine.engine).inputs ≡ length c.args.script.inputs =
    ap (λ (s : ScriptData). length s.inputs) c.in_ok-engine.ensures.stands.same in
    let all : ticks_run engine ≡ length c.args.script.inputs =
    omega (arith, long, c.run_all.ensures.ticks, c.in_ok-engine.ensures.start) in
    whole_run _ engine c.args.script _ stands all (engine_lawful _ engine c.args.script _ stands)
