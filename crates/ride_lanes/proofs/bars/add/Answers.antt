use Rattle.std.proofs.Common.{◌≡◌, true}
use Rattle.ride_lanes.proofs.RunLemmas.{longer_run, next_run}
use Rattle.ride_lanes.proofs.bars.add.Goals as goal

pub returns-then-is_same-clause-runs : goal.returns-then-is_same-clause-runs
returns-then-is_same-clause-runs c = λ column h.
    let same = c.is_same.ensures.0 c.if-is_same.true in
    longer_run column c.args.bars.now.items c.args.run c.longer.result c.args.cell same c.longer.ensures h

pub returns-clause-runs : goal.returns-clause-runs
returns-clause-runs c = λ column h.
    next_run column c.args.bars.now.items c.push.new.bars.items c.args.run c.next-later.result c.args.cell
    (λ same. let told : c.is_same.result ≡ true = c.is_same.ensures.1 same in cc (told, c.if-is_same.false))
    c.next-later.ensures c.in_ok-push.ensures h
