use Rattle.std.proofs.Common.{◌≡◌, ◌+◌, drop}
use Rattle.channel_walker.specs.Details.{order, first_failing}
use Rattle.channel_walker.proofs.clauses.first_failing.Given as goal

abbrev pub invariant-loop-i : goal.invariant-loop-i
invariant-loop-i l = first_failing l.facts l.mode 1 order ≡ first_failing l.facts l.mode (l.i + 1) (drop l.i order)
