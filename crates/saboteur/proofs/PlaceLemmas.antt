-- Which places of a crew hold an object, and what the objects tell.
use Rattle.std.proofs.Common.{◌≡◌, ◌∙◌, ◌<◌, ◌≤◌, ℕ, zero, suc, Bool, List, [], ◌∷◌, false, length, get_or, refl, sym, ap, arith, is_some, Option, Some, None}
use Rattle.std.proofs.lemmas.List.{get_or_default, get_or_past}
use Rattle.std.proofs.lemmas.List.FromFn.{get_or-map-range_with_len}
use Rattle.lift_model.specs.Plans.{Plan}
use Rattle.saboteur.specs.Held.{plans_in, has_object, places_in}

pub place_at : {B : Type 0} (places : List (Option B)) (i : ℕ) → i < 255 → get_or (places_in places) i false ≡ has_object places i
place_at places i lt = get_or-map-range_with_len (has_object places) 0 255 i i false lt (omega arith)

pub object_at : {B : Type 0} (places : List (Option B)) (i : ℕ) (object : Option B) (has : Bool) → i < 255 → i < length places
    → object ≡ get_or places i object → has ≡ is_some object → has ≡ get_or (places_in places) i false
object_at places i object has few within is e =
    e ∙ ap is_some (is ∙ get_or_default places i object None within) ∙ sym (place_at places i few)

pub no_object_at : {B : Type 0} (places : List (Option B)) (i : ℕ) (has : Bool) → i < 255 → length places ≤ i → has ≡ false
    → has ≡ get_or (places_in places) i false
no_object_at places i has few past e = e ∙ sym (ap is_some (get_or_past places i None past)) ∙ sym (place_at places i few)

-- a place tells a plan exactly where it holds an object
pub place_tells : {B : Type 0} (f : B → Plan) (places : List (Option B)) (i : ℕ)
    → is_some (get_or (plans_in f places) i None) ≡ has_object places i
place_tells f [] i = refl
place_tells f (None ∷ places) zero = refl
place_tells f (Some b ∷ places) zero = refl
place_tells f (place ∷ places) (suc i) = place_tells f places i
