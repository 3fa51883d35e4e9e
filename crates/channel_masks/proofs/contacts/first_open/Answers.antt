use Rattle.lift_base.specs.declared.TheConstants.{CONTACTS}
use Rattle.std.proofs.Common.{◌∙◌, refl}
use Rattle.lift_model.proofs.BitLemmas.{first_below-same}
use Rattle.channel_masks.proofs.contacts.first_open.Goals as goal

pub returns : goal.returns
returns c = c.lowest.ensures CONTACTS c.in_neither.ensures.small
    ∙ first_below-same CONTACTS _ _ (λ i h. c.in_neither.ensures.bits i h ∙ (rw (c.made_contacts.ensures i h) refl))
