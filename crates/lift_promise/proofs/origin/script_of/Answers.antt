use Rattle.std.proofs.Common.{refl}
use Rattle.lift_promise.proofs.Generated.{told}
use Rattle.lift_promise.proofs.origin.script_of.Goals as goal

pub returns-in-Load : goal.returns-in-Load
returns-in-Load g c = rw c.in-Load.is (told _ c.in-Load.number c.generate.result _ refl c.generate.ensures)
