use Rattle.std.proofs.Common.{sym, ◌∙◌, arith}
use Rattle.lift_model.specs.Wires.{is_discrepant}
use Rattle.lift_model.proofs.BitLemmas.{first_below-found, first_below-none}
use Rattle.chain_table.proofs.image.Image.first_discrepant.Goals as goal
use Rattle.lift_base.specs.declared.wires.TheConstants.{WIRES}

pub returns-then-discrepant : goal.returns-then-discrepant
returns-then-discrepant c = sym (first_below-found WIRES c.loop-wire.wire (is_discrepant c.args.self.now.words) (omega arith)
    (sym c.discrepant.ensures ∙ c.if-discrepant.true) c.loop-wire.invariant)

pub returns : goal.returns
returns c = sym (first_below-none WIRES (is_discrepant c.args.self.now.words) (λ j l. c.loop-wire.invariant j (omega arith)))
