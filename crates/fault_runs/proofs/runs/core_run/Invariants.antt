use Rattle.std.proofs.Common.{◌≡◌, take}
use Rattle.channel_masks.specs.StandsFor.{StandsFor as MaskStands}
use Rattle.channel_walker.specs.StandsFor.{StandsFor as WalkerStands}
use Rattle.fault_runs.proofs.RoundLemmas.{IsSoFar}
use Rattle.fault_runs.proofs.runs.core_run.Given as goal

-- the inputs so far were taken, and the words as each round ended were kept
abbrev pub invariant-loop-before : goal.invariant-loop-before
invariant-loop-before l = record {
  config : l.core.config ≡ l.config;
  so_far : IsSoFar MaskStands WalkerStands l.script.config l.looks (take l.before l.script.inputs) l.words.items l.core;
}
