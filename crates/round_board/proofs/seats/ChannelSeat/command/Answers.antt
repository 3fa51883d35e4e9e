use Rattle.std.proofs.Common.{rules}
use Rattle.round_board.proofs.Calls.{command_call}
use Rattle.round_board.proofs.seats.ChannelSeat.command.Goals as goal

pub store-requires : goal.store-requires
store-requires c =
    let s = c.self in
    (search rules, search rules, command_call _ _ s.inside.side _ _ _ c.command_index-index.ensures.0 s.invariant.actor (search rules))
