use Rattle.std.proofs.Common.{[], arith, refl}
use Rattle.rideview.proofs.Reading.{was_fed, was_fed_more}
use Rattle.rideview.proofs.read.feed.Goals as goal

pub reads-init : goal.reads-init
reads-init g c = record { fed = λ places h. was_fed places _ [] h; buffer = refl }

pub returns-in-Ok-Ended : goal.returns-in-Ok-Ended
returns-in-Ok-Ended g c places h =
    was_fed_more places _ _ _ c.in-Ok-Ended.ensures.read (c.reads.invariant.fed places h)

pub reads-preserved : goal.reads-preserved
reads-preserved g c = record {
  fed = λ places h. was_fed_more places _ _ _ c.in-Ok-More.ensures.read (c.reads.invariant.fed places h);
  buffer = omega arith;
}
