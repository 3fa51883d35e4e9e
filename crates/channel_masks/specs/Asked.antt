-- Which clauses a mode asks.
use Rattle.std.specs.Prelude.{Bool, true, List, [], ◌∷◌}
use Rattle.lift_model.specs.Enums.{Mode}
use Rattle.lift_model.specs.Stations.{is_normal, is_inspection, is_emergency}

-- of clause 1 to clause 12, whether the mode asks it at all (5.12.1.5, 5.12.1.6, 5.12.1.8, 5.12.1.9)
abbrev pub asked : Mode → List Bool
asked mode =
    true ∷ true ∷ true
    ∷ is_normal mode ∷ is_normal mode ∷ is_normal mode
    ∷ true ∷ true
    ∷ is_inspection mode ∷ is_emergency mode ∷ is_normal mode ∷ is_inspection mode ∷ []
