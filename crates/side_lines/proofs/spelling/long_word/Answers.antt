use Rattle.std.proofs.Common.{arith}
use Rattle.side_lines.proofs.Digits.{one_more_digit}
use Rattle.side_lines.proofs.spelling.long_word.Goals as goal

pub overflow_mul-n : goal.overflow_mul-n
overflow_mul-n c =
    let room = one_more_digit c.loop-digit.n c.loop-digit.digit-index c.loop-digit.invariant.bound (omega arith) in
    omega arith

pub overflow_add-n : goal.overflow_add-n
overflow_add-n c =
    let room = one_more_digit c.loop-digit.n c.loop-digit.digit-index c.loop-digit.invariant.bound (omega arith) in
    omega (arith, c.in_ok-hex_value.ensures.few)
