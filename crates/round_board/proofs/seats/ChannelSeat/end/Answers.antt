use Rattle.std.proofs.Common.{rules}
use Rattle.round_board.proofs.Calls.{end_call, receipt_call}
use Rattle.round_board.proofs.seats.ChannelSeat.end.Goals as goal

pub store-requires : goal.store-requires
store-requires c =
    let s = c.self in (
      search rules,
      search rules,
      end_call _ _ s.inside.side _ _ _ c.done_index-index.ensures.0 s.invariant.actor (search rules) (search rules),
    )

pub split_seat-seat-requires : goal.split_seat-seat-requires
split_seat-seat-requires c = (
  search rules,
  search rules,
  receipt_call _ c.self.inside.side c.store.new.seat.me (search rules) (search rules),
)
