use Rattle.std.proofs.Common.{rules, ◌∙◌}
use Rattle.lift_base.specs.declared.Side.TheVariants.{A, B}
use Rattle.round_board.proofs.Calls.{raise_call, pass_call, told_of}
use Rattle.round_board.proofs.conductor.Conductor.advance.Goals as goal

pub store-requires : goal.store-requires
store-requires c =
    let s = c.self in
    let i = s.invariant in
    let ta = told_of _ (search rules) in
    (search rules, search rules, raise_call _ _ _ _ i.leader ta (i.both ∙ ta) (search rules))

pub split_seat-a-requires : goal.split_seat-a-requires
split_seat-a-requires c = (search rules, search rules, pass_call _ A c.store.new.seat.me (search rules))

pub split_seat-b-requires : goal.split_seat-b-requires
split_seat-b-requires c = (search rules, search rules, pass_call _ B c.split_seat-a.new.seat.me (search rules))
