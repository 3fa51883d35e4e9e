use Rattle.std.proofs.Common.{sym}
use Rattle.lift_front.proofs.Numbers.{no_number, is_number, other_number}
use Rattle.lift_front.proofs.command.number.Goals as goal

pub returns-in_default : goal.returns-in_default
returns-in_default c = no_number c.args.word.now c.parse.result c.parse.ensures.value.0 c.in_default.field-0 c.in_default.is

pub returns-then-eq : goal.returns-then-eq
returns-then-eq c =
    is_number c.args.word.now c.parse.result c.parse.ensures.value.0 c.in-Ok.number c.in-Ok.is
    (sym (rw c.format.ensures.text at c.if-eq.ensures))

pub returns-else-eq : goal.returns-else-eq
returns-else-eq c =
    other_number c.args.word.now c.parse.result c.parse.ensures.value.0 c.in-Ok.number c.in-Ok.is
    (sym (rw c.format.ensures.text at c.if-eq.ensures))
