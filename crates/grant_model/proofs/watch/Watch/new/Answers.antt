use Rattle.std.proofs.Common.{[]}
use Rattle.lift_base.specs.declared.wires.TheConstants.{RESET, PIT_RESET}
use Rattle.lift_model.proofs.WatchedLemmas.{Watches-none}
use Rattle.grant_model.proofs.watch.Watch.new.Goals as goal

pub returns : goal.returns
returns c config disc door = record {
  wires = rw (← disc) c.new.ensures;
  pit = ([], Watches-none config PIT_RESET, c.new-2.ensures);
  doors = ([], Watches-none config RESET, rw (← door) c.new-3.ensures);
}
