-- The verdict at the end of some inputs, and of none.
use Rattle.std.proofs.Common.{◌≡◌, ◌<◌, List, [], ◌∷◌, length, refl, arith}
use Rattle.lift_base.specs.Ruling.{initial}
use Rattle.lift_model.specs.Records.{Settings, InputData}
use Rattle.lift_model.specs.Grant.{facts_of, verdict_of, verdict_at_end}

pub verdict-some : (config : Settings) (inputs : List InputData) → 0 < length inputs → verdict_at_end config inputs ≡ verdict_of
    (facts_of config inputs)
unfolding verdict_at_end
verdict-some config [] some = absurd (omega (arith, some))
verdict-some config (x ∷ xs) some = refl

pub verdict-none : (config : Settings) → verdict_at_end config [] ≡ initial
unfolding verdict_at_end
verdict-none config = refl
