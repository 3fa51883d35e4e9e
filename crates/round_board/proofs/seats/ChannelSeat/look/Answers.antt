use Rattle.std.proofs.Common.{rules}
use Rattle.round_board.proofs.Calls.{see_call, note_call}
use Rattle.round_board.proofs.seats.ChannelSeat.look.Goals as goal

pub load-word-requires : goal.load-word-requires
load-word-requires c =
    let s = c.self in
    (search rules, search rules, see_call _ _ s.inside.side _ _ (search rules) s.invariant.actor (search rules))

pub store-requires : goal.store-requires
store-requires c = (search rules, search rules, note_call _ _ c.self.inside.side _ _ _ (search rules) (search rules) (search rules))
