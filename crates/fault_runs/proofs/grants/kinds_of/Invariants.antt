use Rattle.std.proofs.Common.{◌≡◌, take}
use Rattle.fault_runs.specs.Lines.{kinds_to}
use Rattle.fault_runs.proofs.grants.kinds_of.Given as goal

-- it took the inputs of the ticks before, and these are the kinds that were granted at them
abbrev pub invariant-loop-before : goal.invariant-loop-before
invariant-loop-before g l = record {
  stands : g.C.Channel.stands l.channel l.config (take l.before l.trace.inputs);
  kinds : l.kinds.items ≡ kinds_to l.config l.trace.inputs l.before;
}
