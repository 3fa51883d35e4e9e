use Rattle.std.proofs.Common.{ap, sym, ◌∙◌, subst, []}
use Rattle.lift_model.specs.Records.{Settings}
use Rattle.lift_core.specs.Parts.{CoreData}
use Rattle.lift_core.specs.StandsFor.{StandsFor}
use Rattle.lift_core.proofs.StepLemmas.{promised, locked_out, open_starts, a_exchanged}
use Rattle.lift_core.proofs.stepping.Core.exchange_a.Goals as goal

pub returns-then-not-failed-clause-promised : goal.returns-then-not-failed-clause-promised
returns-then-not-failed-clause-promised g c config events h = promised g.CA.Channel.stands g.CB.Channel.stands _ config events h

pub returns-then-not-failed-clause-locks_out : goal.returns-then-not-failed-clause-locks_out
returns-then-not-failed-clause-locks_out g c config events h = locked_out g.CA.Channel.stands g.CB.Channel.stands _ config events h

pub returns-then-not-failed-clause-starts_open : goal.returns-then-not-failed-clause-starts_open
returns-then-not-failed-clause-starts_open g c config events h = open_starts g.CA.Channel.stands g.CB.Channel.stands _ config events h

pub invariant_of-self : goal.invariant_of-self
invariant_of-self g c =
    let new = subst (λ (s : Settings). g.CA.Channel.stands c.args.fresh s [])
    (sym (ap (λ (x : CoreData g.row.CA.Denot g.row.CB.Denot). x.config) c.self.view_is)) c.requires.new in (
      _,
      a_exchanged g.CA.Channel.stands g.CB.Channel.stands _ _ _ c.self.invariant.1 c.exchange.new.self c.args.fresh
          (sym c.failed.ensures ∙ c.if-not-failed.false) c.exchange.ensures new,
    )

pub returns-clause-stands : goal.returns-clause-stands
returns-clause-stands g c config events h =
    let here = subst (λ (x : CoreData g.row.CA.Denot g.row.CB.Denot). StandsFor g.CA.Channel.stands g.CB.Channel.stands x config events)
    (sym c.self.view_is) h in
    let new = subst (λ (s : Settings). g.CA.Channel.stands c.args.fresh s []) h.settings c.requires.new in
    a_exchanged g.CA.Channel.stands g.CB.Channel.stands _ config events here c.exchange.new.self c.args.fresh
    (sym c.failed.ensures ∙ c.if-not-failed.false) c.exchange.ensures new

pub returns-clause-promised : goal.returns-clause-promised
returns-clause-promised g c config events h = promised g.CA.Channel.stands g.CB.Channel.stands _ config events h

pub returns-clause-locks_out : goal.returns-clause-locks_out
returns-clause-locks_out g c config events h = locked_out g.CA.Channel.stands g.CB.Channel.stands _ config events h

pub returns-clause-starts_open : goal.returns-clause-starts_open
returns-clause-starts_open g c config events h = open_starts g.CA.Channel.stands g.CB.Channel.stands _ config events h
