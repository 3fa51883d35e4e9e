use Rattle.std.proofs.Common.{sym, ◌∙◌}
use Rattle.can_log.proofs.Heads.{whole_head, refused_head, open_head}
use Rattle.can_log.proofs.head.Head.read.Goals as goal

pub returns-in-Ok : goal.returns-in-Ok
returns-in-Ok c = whole_head c.args.text.now c.in-Ok.config c.in-Ok.ensures.meaning

pub returns-then-lacks_ticks : goal.returns-then-lacks_ticks
returns-then-lacks_ticks c =
    open_head c.args.text.now c.in-Err.fault c.read_open.result c.in-Err.ensures.meaning
    (sym c.lacks_ticks.ensures ∙ c.if-lacks_ticks.true) c.read_open.ensures

pub returns-else-lacks_ticks : goal.returns-else-lacks_ticks
returns-else-lacks_ticks c =
    refused_head c.args.text.now c.in-Err.fault c.in-Err.ensures.meaning (sym c.lacks_ticks.ensures ∙ c.if-lacks_ticks.false)
