use Rattle.std.proofs.Common.{rules}
use Rattle.round_board.proofs.Calls.{publish_call}
use Rattle.round_board.proofs.seats.ChannelSeat.publish.Goals as goal

pub store-requires : goal.store-requires
store-requires c =
    let s = c.self in (
      search rules,
      search rules,
      publish_call _ _ s.inside.side _ _ _ c.publish_index-index.ensures.0 s.invariant.actor (search rules) (search rules),
    )
