use Rattle.std.proofs.Common.{◌∙◌}
use Rattle.fault_runs.specs.Lines.{differs_at}
use Rattle.fault_runs.proofs.LineLemmas.{first_more}
use Rattle.fault_runs.proofs.lines.first_difference.Goals as goal

pub loop-before-preserved : goal.loop-before-preserved
loop-before-preserved c = c.first_of-first.ensures ∙ (rw (c.loop-before.invariant, c.differs_at.ensures)
    (first_more c.loop-before.before (differs_at c.args.path.now.settled c.args.usual.now.settled)))
