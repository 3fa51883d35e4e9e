-- The places of a crew that hold an object are those that tell a plan.
use Rattle.std.proofs.Common.{◌≡◌, ℕ, List, Option, map, sym}
use Rattle.std.specs.List.{range_with_len}
use Rattle.lift_model.specs.Plans.{Plan}
use Rattle.saboteur.proofs.PlaceLemmas.{place_tells}
use Rattle.saboteur.specs.Held.{plans_in, places_in}
use Rattle.saboteur.specs.declared.crew.TheConstants.{MOST_PLACES}

pub places_told : {B : Type 0} (f : B → Plan) (places : List (Option B)) → places_in places ≡ places_in (plans_in f places)
places_told f places = λ i. map (λ (k : ℕ). sym (place_tells f places k) i) (range_with_len 0 MOST_PLACES)
