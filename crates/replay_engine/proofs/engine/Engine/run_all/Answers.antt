use Rattle.std.proofs.Common.{◌≡◌, ◌∙◌, length, ap, arith}
use Rattle.script_model.specs.Judging.{ScriptData}
use Rattle.replay_engine.specs.Engines.{script_of}
use Rattle.replay_engine.proofs.engine.Engine.run_all.Goals as goal

pub loop-self-preserved : goal.loop-self-preserved
loop-self-preserved g c =
    let now = c.loop-self.invariant in
    let long : length (script_of c.tick.new.self).inputs ≡ length (script_of c.loop-self.self).inputs =
    ap (λ (s : ScriptData). length s.inputs) c.tick.ensures.script in
    record {
      script = c.tick.ensures.script ∙ now.script;
      ticks = omega (arith, long, c.tick.ensures.tick, now.ticks, c.left.ensures, c.loop-self-test.true);
      stands = λ script plans h. c.tick.ensures.stands script plans (now.stands script plans h);
    }
