use Rattle.std.proofs.Common.{◌≤◌, ◌^◌, arith, ℕ}
use Rattle.std.proofs.Math.Nat.{pow-le-pow_right}
use Rattle.can_log.proofs.lines.number.Goals as goal

-- twelve digits at most
within : (i : ℕ) → i ≤ 12 → 10 ^ i ≤ 10 ^ 12
within i few = pow-le-pow_right (omega arith) few

pub overflow_mul-n : goal.overflow_mul-n
overflow_mul-n c = omega (arith, within c.loop-digit.digit-index (omega arith), c.loop-digit.invariant.bound)

pub overflow_add-n : goal.overflow_add-n
overflow_add-n c = omega (arith, within c.loop-digit.digit-index (omega arith), c.loop-digit.invariant.bound)

pub returns-clause-few : goal.returns-clause-few
returns-clause-few c = omega (arith, within c.loop-digit.digit-index (omega arith), c.loop-digit.invariant.bound)
