-- What objects tell, of a holder and of the places of a crew: f is the plan that an object tells.
use Rattle.std.specs.Prelude.{ℕ, Bool, Option, Some, None, List, map, get_or, is_some}
use Rattle.std.specs.List.{range_with_len}
use Rattle.lift_model.specs.Plans.{Plan}
use Rattle.saboteur.specs.declared.holder.Holder.{Holder}
use Rattle.saboteur.specs.declared.crew.Crew.{Crew}
use Rattle.saboteur.specs.declared.crew.TheConstants.{MOST_PLACES}

-- the plan of what may be there
abbrev pub plan_at : {B : Type 0} → (B → Plan) → Option B → Option Plan
plan_at f None = None
plan_at f (Some b) = Some (f b)

-- the same, place by place
abbrev pub plans_in : {B : Type 0} → (B → Plan) → List (Option B) → List (Option Plan)
plans_in f places = map (plan_at f) places

-- the plan of what the holder holds
abbrev pub plan_held : {I : Type 0} {F : I → Type 0} → ((x : I) × F x → Plan) → Holder I F → Option Plan
plan_held f holder = plan_at (λ o. f (o.vtable, o.value)) holder.object

-- the plans of the crew, place by place
abbrev pub plans_of : {I : Type 0} {F : I → Type 0} → ((x : I) × F x → Plan) → Crew I F → List (Option Plan)
plans_of f crew = plans_in (λ o. f (o.vtable, o.value)) crew.list.items

-- whether there is an object at place i
abbrev pub has_object : {B : Type 0} → List (Option B) → ℕ → Bool
has_object places i = is_some (get_or places i None)

-- the same of each place that a line of a script can name, from 0 on
abbrev pub places_in : {B : Type 0} → List (Option B) → List Bool
places_in places = map (has_object places) (range_with_len 0 MOST_PLACES)

abbrev pub places_of : {I : Type 0} {F : I → Type 0} → Crew I F → List Bool
places_of crew = places_in crew.list.items
