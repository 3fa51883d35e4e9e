use Rattle.std.proofs.Common.{List, Bool, [], subst, IfOk}
use Rattle.fault_script.specs.Reads.{HasRead}
use Rattle.lift_front.proofs.Places.{places_told}
use Rattle.lift_front.proofs.pieces.open.Goals as goal

pub returns : goal.returns
returns g c =
    subst (λ (places : List Bool). IfOk c.open.result (λ reader. HasRead reader c.args.form places []))
    (places_told _ c.args.crew.now.list.items) c.open.ensures.read
