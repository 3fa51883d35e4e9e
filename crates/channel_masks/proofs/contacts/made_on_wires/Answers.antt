use Rattle.std.proofs.Common.{◌-◌, ◌∙◌, arith}
use Rattle.std.specs.Prelude.{◌&&◌, not, bit_and}
use mir.Syntax.{w16}
use Rattle.lift_model.specs.Bits.{has}
use Rattle.lift_model.proofs.BitLemmas.{has_and, has_not}
use Rattle.channel_masks.proofs.WordLemmas.{and_turned}
use Rattle.channel_masks.proofs.contacts.made_on_wires.Goals as goal

pub returns : goal.returns
returns c i h =
    let a = c.args.a in let b = c.args.b in
    has_and (bit_and a (65535 - b)) 0x007F i
    ∙ (rw (has_and a (65535 - b) i, has_not w16 b i (omega arith) (omega arith)) (and_turned (has a i && not (has b i)) (has 0x007F i)))
