use Rattle.std.proofs.Common.{◌≡◌, ℕ, length, true, ap, sym, ◌∙◌, subst}
use Rattle.core_model.specs.Machine.{may}
use Rattle.lift_core.specs.Parts.{CoreData}
use Rattle.lift_core.specs.StandsFor.{StandsFor}
use Rattle.lift_core.proofs.StepLemmas.{past, b_steps}
use Rattle.lift_model.specs.Enums.{B}
use Rattle.lift_core.proofs.stepping.Core.make_b.Goals as goal

pub make-requires-clause-past : goal.make-requires-clause-past
make-requires-clause-past g c = past g.CA.Channel.stands g.CB.Channel.stands _ _ c.self.invariant.0 c.self.invariant.1 B

pub returns-clause-stands : goal.returns-clause-stands
returns-clause-stands g c config events h =
    let here = subst (λ (x : CoreData g.row.CA.Denot g.row.CB.Denot). StandsFor g.CA.Channel.stands g.CB.Channel.stands x config events)
    (sym c.self.view_is) h in
    let on : may c.self.inside.b.side (length c.self.inside.trace.inputs) c.args.step ≡ true =
    ap (λ (n : ℕ). may c.self.inside.b.side n c.args.step) (sym c.len.ensures.value) ∙ (sym c.may.ensures ∙ c.if-not-may.false) in
    b_steps g.CA.Channel.stands g.CB.Channel.stands _ config events here c.args.step c.publish-peer.result
    c.make.new.self c.publish-peer.ensures on (c.make.ensures.side config here.channel_b) (c.make.ensures.channel config here.channel_b)

pub invariant_of-self : goal.invariant_of-self
invariant_of-self g c =
    let on : may c.self.inside.b.side (length c.self.inside.trace.inputs) c.args.step ≡ true =
    ap (λ (n : ℕ). may c.self.inside.b.side n c.args.step) (sym c.len.ensures.value) ∙ (sym c.may.ensures ∙ c.if-not-may.false) in
    let here = c.self.invariant.1 in (
      _,
      b_steps g.CA.Channel.stands g.CB.Channel.stands _ _ _ here c.args.step c.publish-peer.result
          c.make.new.self c.publish-peer.ensures on (c.make.ensures.side _ here.channel_b) (c.make.ensures.channel _ here.channel_b),
    )
