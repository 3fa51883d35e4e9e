use Rattle.std.proofs.Common.{sym, ◌∙◌, ap, arith, eqb, ℕ}
use mir.Syntax.{w16}
use Rattle.std.proofs.lemmas.Nat.Bits.{bit_at_set_same, bit_at_set_other}
use Rattle.std.proofs.lemmas.Bool.{or_right}
use Rattle.channel_masks.proofs.sets.with_bit.Goals as goal

pub returns-then-on-clause-same : goal.returns-then-on-clause-same
returns-then-on-clause-same c = ap (λ (d : ℕ). eqb d 1) (bit_at_set_same w16 c.args.set c.args.i (omega arith))
    ∙ sym (or_right _ _ c.if-on.true)

pub returns-then-on-clause-others : goal.returns-then-on-clause-others
returns-then-on-clause-others c k h = ap (λ (d : ℕ). eqb d 1) (bit_at_set_other w16 c.args.set c.args.i (omega arith) k h)
