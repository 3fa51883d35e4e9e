use Rattle.std.proofs.Common.{◌≡◌, Bool, List, [], length}
use Rattle.lift_base.specs.declared.forms.Form.TheVariants.{Replay}
use Rattle.fault_script.specs.Reads.{HasRead}
use Rattle.rideview.specs.Feeding.{WasFed}
use Rattle.rideview.proofs.read.feed.Given as goal

abbrev pub invariant-reads : goal.invariant-reads
invariant-reads g l = record {
  fed : (places : List Bool) → HasRead l.fn.reader Replay places [] → WasFed places l.reader;
  buffer : length l.piece ≡ 4096;
}
