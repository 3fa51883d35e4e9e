use Rattle.std.proofs.Common.{sym, ◌∙◌, subst}
use Rattle.lift_core.specs.Parts.{CoreData}
use Rattle.lift_core.specs.StandsFor.{StandsFor}
use Rattle.lift_core.proofs.StepLemmas.{has_room, path_has_room, settles}
use Rattle.lift_core.proofs.stepping.Core.settle.Goals as goal

pub push-requires : goal.push-requires
push-requires g c =
    path_has_room g.CA.Channel.stands g.CB.Channel.stands _ _ _ c.self.invariant.1
    (has_room _ c.args.self.now c.self.view_is (sym c.is_full.ensures ∙ c.if-is_full.false))

pub invariant_of-self : goal.invariant_of-self
invariant_of-self g c =
    let room = has_room _ c.args.self.now c.self.view_is (sym c.is_full.ensures ∙ c.if-is_full.false) in (
      _,
      settles g.CA.Channel.stands g.CB.Channel.stands _ _ _ c.self.invariant.1 c.args.input.now c.settled_by-settled.result
          c.push_copy.new.self c.push.new.self
          c.len.result room c.push_copy.ensures c.len.ensures.value c.settled_by-settled.ensures c.push.ensures,
    )

pub returns-clause-stands : goal.returns-clause-stands
returns-clause-stands g c config events h =
    let here = subst (λ (x : CoreData g.row.CA.Denot g.row.CB.Denot). StandsFor g.CA.Channel.stands g.CB.Channel.stands x config events)
    (sym c.self.view_is) h in
    let room = has_room _ c.args.self.now c.self.view_is (sym c.is_full.ensures ∙ c.if-is_full.false) in
    settles g.CA.Channel.stands g.CB.Channel.stands _ config events here c.args.input.now c.settled_by-settled.result
    c.push_copy.new.self c.push.new.self
    c.len.result room c.push_copy.ensures c.len.ensures.value c.settled_by-settled.ensures c.push.ensures
