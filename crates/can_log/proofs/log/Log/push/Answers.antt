use Rattle.std.proofs.Common.{◌≤◌, sym, subst, arith}
use Rattle.can_log.specs.Taken.{LogData}
use Rattle.can_log.proofs.Logs.{push_keeps}
use Rattle.can_log.proofs.log.Log.push.Goals as goal

pub invariant_of-self : goal.invariant_of-self
invariant_of-self c =
    let old : LogData = record {
      taking = c.self.inside.taking;
      first = c.self.inside.first;
      last = c.self.inside.last;
      ticks = c.self.inside.ticks;
      taken = c.self.inside.taken.items;
      others = c.self.inside.others;
    } in
    let some : 1 ≤ c.self.inside.ticks = subst (λ (l : LogData). 1 ≤ l.ticks) (sym c.self.view_is) c.requires in
    rw c.in-Ok.ensures.items (push_keeps old c.self.inside.here c.args.frame c.self.invariant some (omega arith))
