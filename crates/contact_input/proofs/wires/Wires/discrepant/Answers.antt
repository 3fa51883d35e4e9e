use Rattle.std.proofs.Common.{sym, ◌∙◌, arith}
use Rattle.lift_model.specs.Wires.{is_discrepant}
use Rattle.lift_model.proofs.BitLemmas.{first_below-found, first_below-none}
use Rattle.contact_input.proofs.wires.Wires.discrepant.Goals as goal
use Rattle.lift_base.specs.declared.wires.TheConstants.{WIRES}

pub returns-then-is_discrepant : goal.returns-then-is_discrepant
returns-then-is_discrepant c disc ticks h =
    rw (← h.words) (sym (first_below-found WIRES c.loop-wire.wire (is_discrepant c.args.self.now.words) (omega arith)
    (sym c.is_discrepant.ensures ∙ c.if-is_discrepant.true) c.loop-wire.invariant))

pub returns : goal.returns
returns c disc ticks h =
    rw (← h.words) (sym (first_below-none WIRES (is_discrepant c.args.self.now.words) (λ j l. c.loop-wire.invariant j (omega arith))))

pub returns-then-is_none_discrepant : goal.returns-then-is_none_discrepant
returns-then-is_none_discrepant c disc ticks h =
    rw (← h.words) (sym (first_below-none WIRES (is_discrepant c.args.self.now.words)
    (c.is_none_discrepant.ensures c.if-is_none_discrepant.true)))
