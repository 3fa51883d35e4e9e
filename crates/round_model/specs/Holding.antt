-- What a side holds of the objects that a script gives it.
use Rattle.std.specs.Prelude.{ℕ, Bool, true, false, if◌then◌else◌, List, [], ◌∷◌, get_or, Option, Some, None}
use Rattle.lift_base.specs.declared.Side.{Side}
use Rattle.lift_model.specs.Plans.{Plan, untold, rest_of}
use Rattle.lift_model.specs.Records.{InputData, SideFaultData}
use Rattle.round_model.specs.Parts.{faults_of, failed_by}

-- what a side holds once the tick's lines are applied: dismissed, then given
abbrev pub given : List (Option Plan) → Option ℕ → Bool → Option Plan → Option Plan
given crew None true held = None
given crew None false held = held
given crew (Some i) dismiss held = get_or crew i None

-- what a side holds after its act of a tick, where it held this before; a new side holds nothing
abbrev pub held_by : List (Option Plan) → Bool → SideFaultData → Option Plan → Option Plan
held_by crew failed f held =
    let now = given crew f.give f.dismiss held in
    if f.exchange then None else if failed then rest_of now else now

-- what a side holds after these ticks, where it was failed and held this before them
abbrev pub held_from : List (Option Plan) → Side → Bool → Option Plan → List InputData → Option Plan
held_from crew side was held [] = held
held_from crew side was held (input ∷ inputs) =
    held_from crew side (failed_by was (faults_of side input))
    (held_by crew (failed_by was (faults_of side input)) (faults_of side input) held) inputs

-- what it holds as it acts in the tick that follows these
abbrev pub held_in : List (Option Plan) → Side → List InputData → InputData → Option Plan
held_in crew side past input = given crew (faults_of side input).give (faults_of side input).dismiss (held_from crew side false None past)

-- The plan that the script says a side holds upholds the one that its object tells now. An object that told nothing when it was given may
-- tell anything later; else the two are the same.
pub data Upholds : Option Plan → Option Plan → Type 0 where
  same : (p : Option Plan) → Upholds p p
  free : (q : Plan) → Upholds (Some untold) (Some q)
