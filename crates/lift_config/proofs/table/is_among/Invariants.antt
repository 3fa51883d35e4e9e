use Rattle.std.proofs.Common.{◌≡◌, drop}
use Rattle.lift_config.specs.Head.{is_among}
use Rattle.lift_config.proofs.table.is_among.Given as goal

abbrev pub invariant-loop-id : goal.invariant-loop-id
invariant-loop-id l = is_among l.n l.earlier ≡ is_among l.n (drop l.id-index l.earlier)
