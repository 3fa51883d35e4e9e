use Rattle.std.proofs.Common.{arith}
use Rattle.fault_script.proofs.HeadBytes.{head_more, head_refused, head_at_end, head_counts}
use Rattle.fault_script.proofs.head.Head.feed.Goals as goal

pub returns-in-Whole : goal.returns-in-Whole
returns-in-Whole c =
    let so_far = c.loop-i.invariant in
    let whole = c.in-Whole.ensures in
    (omega arith, head_at_end _ _ _ c.args.piece.now c.loop-i.i 0 c.loop-i-test.true so_far.so_far so_far.count whole.0 whole.1)

pub returns-in-Refused : goal.returns-in-Refused
returns-in-Refused c =
    head_refused _ _ c.args.piece.now c.loop-i.i 0 c.in-Refused.fault c.loop-i-test.true c.loop-i.invariant.so_far c.in-Refused.ensures

pub loop-i-preserved : goal.loop-i-preserved
loop-i-preserved c = record {
  so_far = head_more _ _ _ c.args.piece.now c.loop-i.i 0 c.loop-i-test.true c.loop-i.invariant.so_far c.in-More.ensures;
  count = head_counts c.loop-i.self c.take.new.self _ c.loop-i.i _ c.loop-i.invariant.count c.in-More.ensures;
}
