use Rattle.std.proofs.Common.{refl, sym}
use Rattle.lift_model.proofs.TickLemmas.{Counts-zero}
use Rattle.lift_model.proofs.WatchedLemmas.{faulty_over-none}
use Rattle.door_watch.proofs.watch.DoorWatch.new.Goals as goal

pub returns : goal.returns
returns c = record { same_door = refl; row = Counts-zero _ _; faulty = sym (faulty_over-none c.args.door) }
