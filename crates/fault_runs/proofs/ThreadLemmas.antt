-- The run on two threads, of a crew without places.
use Rattle.std.proofs.Common.{◌≡◌, ◌∙◌, sym, ap, subst, List, [], map, Option}
use Rattle.lift_model.specs.Plans.{Plan}
use Rattle.lift_model.specs.Records.{Settings, InputData}
use Rattle.lift_run.specs.Records.{RunData}
use Rattle.round_model.specs.Lawful.{IsLawful}

pub none_of_none : {X Y : Type 0} (f : X → Y) (xs ys : List X) → map f xs ≡ map f ys → ys ≡ [] → map f xs ≡ []
none_of_none f xs ys same none = same ∙ ap (map f) none

pub whole_run : (config : Settings) (plans : List (Option Plan)) (inputs taken : List InputData) (run was : RunData) → run ≡ was
    → taken ≡ inputs → plans ≡ [] → IsLawful config plans taken was.rounds was.path.settled
    → IsLawful config [] inputs run.rounds run.path.settled
whole_run config plans inputs taken run was same all none lawful =
    subst (λ (r : RunData). IsLawful config [] inputs r.rounds r.path.settled) (sym same)
    (subst (λ is. IsLawful config [] is was.rounds was.path.settled) all
    (subst (λ ps. IsLawful config ps taken was.rounds was.path.settled) none lawful))
