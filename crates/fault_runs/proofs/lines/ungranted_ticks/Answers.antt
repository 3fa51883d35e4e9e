use Rattle.std.proofs.Common.{arith}
use Rattle.fault_runs.specs.Lines.{is_ungranted_at}
use Rattle.fault_runs.proofs.LineLemmas.{count_more}
use Rattle.fault_runs.proofs.lines.ungranted_ticks.Goals as goal

pub loop-before-preserved : goal.loop-before-preserved
loop-before-preserved c = record {
  count = rw (c.one_if-count.ensures.value, c.loop-before.invariant.count, c.is_ungranted_at.ensures)
      (count_more c.loop-before.before (is_ungranted_at c.args.path.now.settled c.args.kinds.now));
  few = omega (arith, c.one_if-count.ensures.few, c.loop-before.invariant.few);
}
