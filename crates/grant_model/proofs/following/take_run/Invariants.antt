use Rattle.std.proofs.Common.{ℕ, ◌≤◌, List, length, take}
use Rattle.lift_model.specs.Records.{Settings, InputData}
use Rattle.grant_model.specs.Runs.{AllAre}
use Rattle.grant_model.proofs.following.take_run.Given as goal

-- it took the ticks of the run up to this one
abbrev pub Passed : {F : Type 0} → (F → Settings → List InputData → Type 0) → F → F → InputData → ℕ → ℕ → ℕ → Type 0
Passed stands old it x from end tick =
    (config : Settings) (inputs : List InputData) → stands old config (take from inputs) → from ≤ end → end ≤ length inputs
    → AllAre inputs x from end → stands it config (take tick inputs)

abbrev pub invariant-loop-tick : goal.invariant-loop-tick
invariant-loop-tick g l = Passed g.F.Follower.stands l.fn.follower l.follower l.input l.from l.end l._tick

abbrev pub invariant-loop-tick-else-len-eq0 : goal.invariant-loop-tick-else-len-eq0
invariant-loop-tick-else-len-eq0 g l = Passed g.F.Follower.stands l.fn.follower l.follower l.input l.from l.end l._tick
