use Rattle.std.proofs.Common.{rules}
use Rattle.lift_base.specs.declared.Side.TheVariants.{A, B}
use Rattle.round_board.proofs.GivenNotes.{opens_ruled}
use Rattle.round_board.proofs.Calls.{make_call}
use Rattle.round_board.proofs.board.Board.open.Goals as goal

pub of_words-requires : goal.of_words-requires
of_words-requires c = opens_ruled

pub split_seat-a-requires : goal.split_seat-a-requires
split_seat-a-requires c = (search rules, search rules, make_call _ A c.in-Ok.seat.me (search rules) (search rules))

pub split_seat-b-requires : goal.split_seat-b-requires
split_seat-b-requires c = (search rules, search rules, make_call _ B c.split_seat-a.new.seat.me (search rules) (search rules))
