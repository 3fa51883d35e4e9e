use Rattle.lift_base.specs.declared.TheConstants.{CONTACTS, ALL_CONTACTS}
use Rattle.std.proofs.Common.{◌-◌, ◌∙◌, arith}
use Rattle.std.specs.Prelude.{◌&&◌, not, bit_and}
use mir.Syntax.{w16}
use Rattle.lift_model.specs.Bits.{has}
use Rattle.lift_model.proofs.BitLemmas.{has_and, has_not, has_ones}
use Rattle.channel_masks.proofs.WordLemmas.{and_true}
use Rattle.channel_masks.proofs.contacts.in_neither.Goals as goal

pub returns-clause-bits : goal.returns-clause-bits
returns-clause-bits c i h =
    let a = c.args.past.0 in let b = c.args.made.0 in
    has_and (bit_and (65535 - a) (65535 - b)) ALL_CONTACTS i
    ∙ (rw (
      has_and (65535 - a) (65535 - b) i,
      has_ones CONTACTS i h,
      has_not w16 a i (omega arith) (omega arith),
      has_not w16 b i (omega arith) (omega arith),
    )
    (and_true (not (has a i) && not (has b i))))
