use Rattle.std.proofs.Common.{◌≡◌, length}
use Rattle.can_log.specs.Lines.{skip_blanks}
use Rattle.can_log.proofs.lines.skip_blanks.Given as goal

abbrev pub invariant-loop-text : goal.invariant-loop-text
invariant-loop-text l = skip_blanks l.text ≡ skip_blanks l.fn.text

abbrev pub decreases-loop-text : goal.decreases-loop-text
decreases-loop-text l = length l.text
