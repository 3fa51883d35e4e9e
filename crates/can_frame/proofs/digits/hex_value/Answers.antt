use Rattle.std.proofs.Common.{◌<◌, ◌≤◌, ◌∙◌, ℕ, Some, ap, get_or, arith}
use Rattle.std.proofs.lemmas.Bool.Decides.{nat_tests}
use Rattle.can_frame.proofs.DigitTable.{digit_read, digit_refused}
use Rattle.can_frame.specs.declared.digits.TheConstants.{DIGITS}
use Rattle.can_frame.proofs.digits.hex_value.Goals as goal

pub returns-then-value-lt16-clause-value : goal.returns-then-value-lt16-clause-value
returns-then-value-lt16-clause-value c =
    let small : get_or DIGITS c.args.b 0 < 16 = grind (arith, nat_tests) in
    ap (λ (n : ℕ). Some n) c.from.ensures ∙ digit_read c.args.b (omega arith) small

pub returns-else-value-lt16-clause-value : goal.returns-else-value-lt16-clause-value
returns-else-value-lt16-clause-value c =
    let big : 16 ≤ get_or DIGITS c.args.b 0 = grind (arith, nat_tests) in
    digit_refused c.args.b (omega arith) big
