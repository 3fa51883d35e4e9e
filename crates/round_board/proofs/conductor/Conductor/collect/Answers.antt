use Rattle.std.proofs.Common.{rules, ◌≡◌, ℕ, sym, ap, subst}
use Rattle.lift_base.specs.declared.Side.TheVariants.{A, B}
use Rattle.round_board.specs.declared.view.Track.{Track}
use Rattle.round_board.specs.declared.view.Lead.{Lead}
use Rattle.round_board.specs.declared.tally.Tally.{Tally}
use Rattle.round_board.specs.Records.{SideData}
use Rattle.round_board.specs.Inside.{Noted}
use Rattle.round_board.specs.Rule.{stands}
use Rattle.round_board.specs.Moves.{track_of, lead_of, Closed}
use Rattle.round_board.proofs.Calls.{take_receipt_call, read_call, OneSeen, closed_one_saw}
use Rattle.round_board.proofs.conductor.Conductor.collect.Goals as goal

pub join_seat-requires : goal.join_seat-requires
join_seat-requires c =
    let s = c.self in (
      search rules,
      search rules,
      search rules,
      search rules,
      take_receipt_call _ _ A _ c.a.inside.seat.me s.invariant.leader (search rules) (search rules),
    )

pub join_seat-requires-2 : goal.join_seat-requires-2
join_seat-requires-2 c = (
  search rules,
  search rules,
  search rules,
  search rules,
  take_receipt_call _ _ B c.join_seat.new.seat.me c.b.inside.seat.me (search rules) (search rules) (search rules),
)

pub load-requires : goal.load-requires
load-requires c = (search rules, search rules, read_call _ _ _ _ (search rules) (search rules) (search rules))

pub load-requires-2 : goal.load-requires-2
load-requires-2 c = (search rules, search rules, read_call _ _ _ _ (search rules) (search rules) (search rules))

pub load-requires-3 : goal.load-requires-3
load-requires-3 c = (search rules, search rules, read_call _ _ _ _ (search rules) (search rules) (search rules))

pub load-requires-4 : goal.load-requires-4
load-requires-4 c = (search rules, search rules, read_call _ _ _ _ (search rules) (search rules) (search rules))

pub load-requires-5 : goal.load-requires-5
load-requires-5 c = (search rules, search rules, read_call _ _ _ _ (search rules) (search rules) (search rules))

pub load-requires-6 : goal.load-requires-6
load-requires-6 c = (search rules, search rules, read_call _ _ _ _ (search rules) (search rules) (search rules))

pub returns-clause-one_saw : goal.returns-clause-one_saw
returns-clause-one_saw c fa fb =
    let l : Lead = lead_of c.join_seat-2.new.seat.me.0 in
    let t : Track = track_of c.a.inside.seat.me.0 in
    let u : Track = track_of c.b.inside.seat.me.0 in
    let ta : l.a.now ≡ t = search rules in
    let tb : l.b.now ≡ u = search rules in
    let k : Closed l = search rules in
    let x : c.load-4.result ≡ stands u = search rules in
    let y : c.load.result ≡ stands t = search rules in
    let pa : t.tally ≡ c.args.a.tally = ap (λ (z : SideData). z.tally) c.a.view_is in
    let pb : u.tally ≡ c.args.b.tally = ap (λ (z : SideData). z.tally) c.b.view_is in
    let noted : Noted t × Noted u = (c.a.invariant.noted, c.b.invariant.noted) in
    subst (λ (z : Tally × Tally). OneSeen z.0 z.1 c.load-4.result c.load.result) (λ i. (pa i, pb i))
    (subst (λ (z : ℕ × ℕ). OneSeen t.tally u.tally z.0 z.1) (λ i. (sym x i, sym y i)) (closed_one_saw l t u k ta tb noted)) fa fb
