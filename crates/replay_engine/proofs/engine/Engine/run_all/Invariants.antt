use Rattle.std.proofs.Common.{◌≡◌, ◌+◌, ◌-◌, List, Option, length}
use Rattle.lift_model.specs.Plans.{Plan}
use Rattle.replay_engine.specs.Engines.{Stands, script_of, ticks_run}
use Rattle.script_model.specs.Judging.{ScriptData}
use Rattle.replay_engine.proofs.engine.Engine.run_all.Given as goal

-- the ticks that were run and those that are left are as many as at first
abbrev pub invariant-loop-self : goal.invariant-loop-self
invariant-loop-self g l = record {
  script : script_of l.self ≡ script_of l.fn.self;
  ticks : ticks_run l.self + (length (script_of l.self).inputs - ticks_run l.self)
      ≡ ticks_run l.fn.self + (length (script_of l.fn.self).inputs - ticks_run l.fn.self);
  stands : (script : ScriptData) (plans : List (Option Plan))
      → Stands (λ x. (goal.Saboteur-dyn g x).plan x.1) l.fn.self script plans
      → Stands (λ x. (goal.Saboteur-dyn g x).plan x.1) l.self script plans;
}

abbrev pub decreases-loop-self : goal.decreases-loop-self
decreases-loop-self g l = length (script_of l.self).inputs - ticks_run l.self
