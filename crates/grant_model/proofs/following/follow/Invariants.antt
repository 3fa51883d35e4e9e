use Rattle.std.proofs.Common.{ℕ, ◌-◌, ◌≤◌, take}
use Rattle.lift_model.specs.Records.{Settings}
use Rattle.grant_model.proofs.following.follow.Given as goal

abbrev pub decreases-loop-at : goal.decreases-loop-at
decreases-loop-at g l = l.n - l.at

-- wherever it began, it took the ticks up to this one
abbrev pub invariant-loop-at : goal.invariant-loop-at
invariant-loop-at g l = (config : Settings) (from : ℕ) → from ≤ l.n → g.F.Follower.stands l.fn.follower config (take from l.trace.inputs)
    → (l.at ≤ l.n) × g.F.Follower.stands l.follower config (take l.at l.trace.inputs)
