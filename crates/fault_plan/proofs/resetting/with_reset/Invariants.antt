use Rattle.std.proofs.Common.{◌≡◌, ◌+◌, [], ◌++◌, length, drop}
use Rattle.fault_plan.specs.Made.{inputs_reset}
use Rattle.fault_plan.proofs.resetting.with_reset.Given as goal

abbrev pub invariant-loop-n : goal.invariant-loop-n
invariant-loop-n l = record {
  config : l.made.config ≡ l.script.config;
  steps : l.made.steps ≡ [];
  many : length l.made.inputs ≡ l.n;
  all : l.made.inputs ++ inputs_reset l.tick (l.n + 1) (drop l.n l.script.inputs) ≡ inputs_reset l.tick 1 l.script.inputs;
}
