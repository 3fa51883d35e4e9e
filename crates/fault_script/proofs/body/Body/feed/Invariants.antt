use Rattle.std.proofs.Common.{◌≤◌, length}
use Rattle.fault_script.proofs.Feeding.{LeadsOn}
use Rattle.fault_script.proofs.body.Body.feed.Given as goal

abbrev pub invariant-loop-end : goal.invariant-loop-end
invariant-loop-end l = record {
  leads : LeadsOn l.fn.self l.self l.piece l.rest;
  within : length l.rest ≤ length l.piece;
}

abbrev pub decreases-loop-end : goal.decreases-loop-end
decreases-loop-end l = length l.rest
