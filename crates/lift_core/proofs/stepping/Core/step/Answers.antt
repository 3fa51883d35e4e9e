use Rattle.lift_core.proofs.StepLemmas.{promised, locked_out, open_starts}
use Rattle.lift_core.proofs.stepping.Core.step.Goals as goal

pub returns-clause-promised : goal.returns-clause-promised
returns-clause-promised g c config events h = promised g.CA.Channel.stands g.CB.Channel.stands c.take.new.self config events h

pub returns-clause-locks_out : goal.returns-clause-locks_out
returns-clause-locks_out g c config events h = locked_out g.CA.Channel.stands g.CB.Channel.stands c.take.new.self config events h

pub returns-clause-starts_open : goal.returns-clause-starts_open
returns-clause-starts_open g c config events h = open_starts g.CA.Channel.stands g.CB.Channel.stands c.take.new.self config events h
