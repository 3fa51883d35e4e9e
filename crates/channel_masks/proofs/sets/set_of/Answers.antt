use Rattle.std.proofs.Common.{refl, ◌∙◌, arith, below_more}
use Rattle.lift_model.proofs.BitLemmas.{has_zero}
use Rattle.channel_masks.proofs.sets.set_of.Goals as goal

pub loop-i-init : goal.loop-i-init
loop-i-init c = record { done = λ j h. absurd (omega arith); left = λ j h. has_zero j }

pub loop-i-preserved : goal.loop-i-preserved
loop-i-preserved c = record {
  done = below_more _ _
      (λ j h. c.with_bit-set.ensures.others j (λ e. omega arith) ∙ c.loop-i.invariant.done j h)
      (c.with_bit-set.ensures.same ∙ (rw (c.loop-i.invariant.left c.loop-i.i (omega arith)) refl));
  left = λ j h. c.with_bit-set.ensures.others j (λ e. omega arith) ∙ c.loop-i.invariant.left j (omega arith);
}
