use Rattle.lift_base.specs.declared.TheConstants.{CONTACTS}
use Rattle.std.proofs.Common.{ℕ, Bool, sym, ◌∙◌, arith}
use Rattle.lift_model.specs.Chain.{is_open, inoperative}
use Rattle.lift_model.proofs.BitLemmas.{first_below-found, first_below-none}
use Rattle.channel_walker.proofs.contacts.first_open.Goals as goal

pub returns-then-is_open : goal.returns-then-is_open
returns-then-is_open c =
    let operation = c.args.operation in
    let past = inoperative operation.mode operation.bypass_car operation.bypass_landing in
    let opens : ℕ → Bool = is_open c.args.image.now c.args.there.now past in
    sym (first_below-found CONTACTS c.loop-i.i opens (omega arith) (sym c.is_open.ensures ∙ c.if-is_open.true) c.loop-i.invariant)

pub returns : goal.returns
returns c =
    let operation = c.args.operation in
    let past = inoperative operation.mode operation.bypass_car operation.bypass_landing in
    let opens : ℕ → Bool = is_open c.args.image.now c.args.there.now past in
    sym (first_below-none CONTACTS opens (λ j l. c.loop-i.invariant j (omega arith)))
