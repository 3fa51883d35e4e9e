use Rattle.std.proofs.Common.{◌∙◌, ap}
use Rattle.lift_model.specs.Bits.{has}
use Rattle.channel_masks.proofs.WordLemmas.{has_more, has_same}
use Rattle.channel_masks.proofs.contacts.Contacts.put.Goals as goal

pub returns-then-made : goal.returns-then-made
returns-then-made c i = ap (λ set. has set i) (c.insert.ensures tt)
    ∙ has_more c.args.self.now.0 c.args.contacts.0 i c.args.made c.if-made.true

pub returns-else-made : goal.returns-else-made
returns-else-made c i = has_same c.args.self.now.0 c.args.contacts.0 i c.args.made c.if-made.false
