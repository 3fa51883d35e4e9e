-- The printed names of the sources, the wires and the contacts, each in its order.
use Rattle.std.specs.Prelude.{ℕ, List, [], ◌∷◌, codes}

abbrev pub source_names : List (List ℕ)
source_names = codes "roof" ∷ codes "pit" ∷ codes "car" ∷ codes "doors" ∷ codes "panel" ∷ codes "platform" ∷ []

abbrev pub wire_names : List (List ℕ)
wire_names = codes "panel_stop" ∷ codes "governor" ∷ codes "final_limit" ∷ codes "ascending" ∷ codes "buffers" ∷ codes "slack_rope"
    ∷ codes "pit_door"
    ∷ codes "up_limit" ∷ codes "down_limit" ∷ codes "reset" ∷ codes "pit_reset" ∷ codes "request" ∷ []

abbrev pub contact_names : List (List ℕ)
contact_names = codes "panel_stop" ∷ codes "governor" ∷ codes "final_limit" ∷ codes "ascending" ∷ codes "buffers" ∷ codes "slack_rope"
    ∷ codes "pit_door"
    ∷ codes "pit_stop" ∷ codes "roof_stop" ∷ codes "car_stop" ∷ codes "safety_gear" ∷ codes "car_door" ∷ codes "landing_doors"
    ∷ codes "landing_locks" ∷ codes "platform_stop" ∷ []
