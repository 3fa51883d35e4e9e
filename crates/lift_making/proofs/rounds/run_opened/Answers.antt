use Rattle.std.proofs.Common.{◌≡◌, None, length, ap, sym, subst, arith}
use Rattle.lift_run.specs.Records.{RunData}
use Rattle.script_model.specs.Judging.{ScriptData}
use Rattle.replay_engine.specs.Engines.{ticks_run, script_of}
use Rattle.lift_making.specs.Jobs.{ByRounds}
use Rattle.lift_making.specs.Ways.{RunOf}
use Rattle.lift_making.proofs.WholeRuns.{whole_run}
use Rattle.lift_making.proofs.rounds.run_opened.Goals as goal

pub returns-clause-ran : goal.returns-clause-ran
returns-clause-ran g c = λ script plans h.
    let stands = c.run_all.ensures.stands _ _ h in
    let long : length (script_of c.args.engine).inputs ≡ length script.inputs = ap (λ (s : ScriptData). length s.inputs) h.same in
    let all : ticks_run c.run_all.new.self ≡ length script.inputs = omega (arith, long, c.run_all.ensures.ticks, c.requires) in
    subst (λ (r : RunData). RunOf (ByRounds plans) script None r.rounds r.path.settled) (sym c.into_run.ensures.run)
    (whole_run _ c.run_all.new.self script plans stands all (c.into_run.ensures.lawful _ _ stands))
