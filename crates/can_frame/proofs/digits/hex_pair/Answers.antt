use Rattle.std.proofs.Common.{arith, rules}
use Rattle.can_frame.proofs.DigitTable.{pair_read, pair_refused, pair_fits}
use Rattle.can_frame.proofs.digits.hex_pair.Goals as goal

pub overflow_cast-result : goal.overflow_cast-result
overflow_cast-result c =
    let fits = pair_fits c.args.x c.args.y c.from-high.result c.from-low.result (omega arith) (omega arith) c.from-high.ensures
    c.from-low.ensures c.if-high-low-lt32.true in
    search (rules, fits)

pub returns-then-high-low-lt32 : goal.returns-then-high-low-lt32
returns-then-high-low-lt32 c =
    pair_read c.args.x c.args.y c.from-high.result c.from-low.result (omega arith) (omega arith) c.from-high.ensures c.from-low.ensures
    c.if-high-low-lt32.true

pub returns-else-high-low-lt32 : goal.returns-else-high-low-lt32
returns-else-high-low-lt32 c =
    pair_refused c.args.x c.args.y c.from-high.result c.from-low.result (omega arith) (omega arith) c.from-high.ensures c.from-low.ensures
    c.if-high-low-lt32.false
