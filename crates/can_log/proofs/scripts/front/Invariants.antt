use Rattle.std.proofs.Common.{◌≡◌, ◌++◌, drop}
use Rattle.can_log.specs.Ahead.{front}
use Rattle.can_log.proofs.scripts.front.Given as goal

abbrev pub invariant-loop-t : goal.invariant-loop-t
invariant-loop-t l = l.frames ++ front l.n (drop l.t-index l.taken) ≡ front l.n l.taken
