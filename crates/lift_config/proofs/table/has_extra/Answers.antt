use Rattle.std.proofs.Common.{◌+◌, sym, ap, ◌∙◌}
use Rattle.std.specs.Prelude.{nat_lt}
use Rattle.lift_config.specs.Head.{one_if}
use Rattle.lift_config.proofs.Counting.{count-view}
use Rattle.lift_config.proofs.table.has_extra.Goals as goal

pub returns : goal.returns
returns c =
    rw (c.one_if.ensures.value, c.one_if-2.ensures.value)
    (ap (nat_lt (10 + one_if c.args.car + one_if c.args.platform)) (c.len.ensures.len ∙ sym (count-view c.args.table.now.entries)))
