use Rattle.std.proofs.Common.{◌<◌, sym, arith}
use mir.Syntax.{w16}
use Rattle.lift_model.specs.Bits.{has}
use Rattle.lift_model.proofs.BitLemmas.{lowest_bit, first_below-none, has_zero}
use Rattle.channel_masks.proofs.sets.lowest.Goals as goal

pub returns-then-set-eq0 : goal.returns-then-set-eq0
returns-then-set-eq0 c n h = rw c.if-set-eq0.true (sym (first_below-none n (has 0) (λ j l. has_zero j)))

pub returns-else-set-eq0 : goal.returns-else-set-eq0
returns-else-set-eq0 c n h =
    let positive : 0 < c.args.set = omega arith in
    sym (lowest_bit w16 c.args.set n positive c.ranges.set.fits h)
