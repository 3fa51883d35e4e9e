use Rattle.report.proofs.LastLines.{Noted}
use Rattle.report.proofs.last.fill.Given as goal

abbrev pub invariant-loop-before : goal.invariant-loop-before
invariant-loop-before l = Noted l.fn.last l.last l.path.settled l.before l.power l.alarm
