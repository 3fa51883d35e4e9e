use Rattle.std.proofs.Common.{sym, ◌∙◌, refl, arith}
use Rattle.lift_base.specs.declared.TheConstants.{SOURCES}
use Rattle.lift_model.specs.Grant.{is_missing}
use Rattle.lift_model.proofs.BitLemmas.{first_below-found, first_below-none}
use Rattle.grant_model.proofs.facts.first_missing.Goals as goal

pub returns-then-is_missing : goal.returns-then-is_missing
returns-then-is_missing c =
    rw (first_below-found SOURCES c.loop-source.source (is_missing c.args.there.now c.args.image.now) (omega arith)
    (sym c.is_missing.ensures ∙ c.if-is_missing.true) c.loop-source.invariant) (search arith)

pub returns : goal.returns
returns c = rw (first_below-none SOURCES (is_missing c.args.there.now c.args.image.now)
    (λ j l. c.loop-source.invariant j (omega arith))) refl
