use Rattle.std.proofs.Common.{false, arith}
use Rattle.std.proofs.lemmas.List.FromFn.{fill_by_all}
use Rattle.saboteur.specs.Held.{has_object}
use Rattle.side_lines.proofs.standings.places.Goals as goal

pub returns : goal.returns
returns g c =
    fill_by_all (has_object c.args.crew.now.list.items) c.loop-i.places 255 false c.loop-i.invariant.long
    (λ k few. c.loop-i.invariant.filled k (omega (arith, few, c.loop-i-test.false)))
