use Rattle.std.proofs.Common.{sym}
use Rattle.lift_model.proofs.WatchedLemmas.{latched_over-none}
use Rattle.pit_reset.proofs.latch.PitLatch.new.Goals as goal

pub returns : goal.returns
returns c = record { latched = sym latched_over-none }
