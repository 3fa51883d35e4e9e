use Rattle.std.proofs.Common.{rules}
use Rattle.round_board.proofs.Calls.{begin_call, take_pass_call}
use Rattle.round_board.proofs.seats.ChannelSeat.begin.Goals as goal

pub join_seat-requires : goal.join_seat-requires
join_seat-requires c =
    let s = c.self in
    let p = c.pass in (
      search rules,
      search rules,
      search rules,
      search rules,
      take_pass_call _ _ s.inside.side p.inside.side _ _ s.invariant.actor p.invariant.pass,
    )

pub load-tick-requires : goal.load-tick-requires
load-tick-requires c = (search rules, search rules, begin_call _ _ c.self.inside.side _ (search rules) (search rules))
