use Rattle.std.proofs.Common.{◌≡◌, ◌≤◌, refl, sym, subst, inl, inr}
use Rattle.can_log.specs.Taken.{LogData, first_or, tick_at}
use Rattle.can_log.proofs.Logs.{come_keeps}
use Rattle.can_log.proofs.log.Log.come_to.Goals as goal
use Rattle.can_log.proofs.log.Log.come_to.Goals.{then-self-n, else-self-n}

pub invariant_of-self : goal.invariant_of-self
invariant_of-self c =
    let k = c.self.inside in
    let old : LogData = record {
      taking = k.taking;
      first = k.first;
      last = k.last;
      ticks = k.ticks;
      taken = k.taken.items;
      others = k.others;
    } in
    let is = sym c.self.view_is in
    let first : c.args.first ≡ first_or c.args.time k.first =
    subst (λ (l : LogData). c.args.first ≡ first_or c.args.time l.first) is c.requires.first in
    let later : k.last ≤ c.args.time = subst (λ (l : LogData). l.last ≤ c.args.time) is c.requires.later in
    let tick : c.args.n ≡ tick_at c.args.first k.taking.tick c.args.time =
    subst (λ (l : LogData). c.args.n ≡ tick_at c.args.first l.taking.tick c.args.time) is c.requires.tick in
    let most : c.args.n ≤ k.taking.most = subst (λ (l : LogData). c.args.n ≤ l.taking.most) is c.requires.most in
    elim c.if-self-n.branch [
      | then-self-n w ↦ rw w.self-inside-is
          (come_keeps old k.here c.args.first c.args.time c.args.n 0 c.self.invariant first later tick most (inr (refl, w.if-self-n.true)))
      | else-self-n w ↦ rw w.self-inside-is
          (come_keeps old k.here c.args.first c.args.time c.args.n k.here c.self.invariant first later tick most
          (inl (refl, w.if-self-n.false)))
    ]
