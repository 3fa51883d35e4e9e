use Rattle.std.proofs.Common.{◌≡◌, ◌+◌, sym, ◌∙◌, refl, arith}
use Rattle.channel_walker.specs.Details.{order}
use Rattle.channel_walker.proofs.WalkLemmas.{holds, fails, none_left}
use Rattle.channel_walker.proofs.clauses.first_failing.Goals as goal

pub loop-i-init : goal.loop-i-init
loop-i-init c = refl

pub loop-i-preserved : goal.loop-i-preserved
loop-i-preserved c =
    c.loop-i.invariant
    ∙ holds c.args.facts.now c.args.mode (c.loop-i.i + 1) order c.loop-i.i c.clause_at.result c.clause_at.ensures
    (sym c.detail_of.ensures ∙ c.in_default.is)

pub returns-in-Some-clause-first : goal.returns-in-Some-clause-first
returns-in-Some-clause-first c =
    sym (c.loop-i.invariant
    ∙ fails c.args.facts.now c.args.mode (c.loop-i.i + 1) order c.loop-i.i c.clause_at.result c.in-Some.detail c.clause_at.ensures
    (sym c.detail_of.ensures ∙ c.in-Some.is))

pub returns-clause-first : goal.returns-clause-first
returns-clause-first c =
    let end : c.loop-i.i ≡ 12 = omega arith in
    sym (c.loop-i.invariant ∙ (rw end (none_left c.args.facts.now c.args.mode (12 + 1))))
