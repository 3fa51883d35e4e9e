-- Which places of the crew a script gives away.
use Rattle.std.specs.Prelude.{◌≡◌, ℕ, Bool, true, false, ◌||◌, ◌==◌, List, [], ◌∷◌, ◌++◌, Option, Some, None}
use Rattle.lift_model.specs.Records.{InputData, SideFaultData}

abbrev pub is_place : ℕ → Option ℕ → Bool
is_place i None = false
is_place i (Some j) = i == j

-- a side is given place i
abbrev pub gives : ℕ → SideFaultData → Bool
gives i f = is_place i f.give

-- some tick of these gives place i away
abbrev pub is_given : ℕ → List InputData → Bool
is_given i [] = false
is_given i (input ∷ inputs) = gives i input.faults.a || (gives i input.faults.b || is_given i inputs)

-- a place that the tick gives was given by no tick of these, nor is it given to both sides
pub record GivesOnce (past : List InputData) (input : InputData) : Type 0 where
  pub a : (i : ℕ) → gives i input.faults.a ≡ true → is_given i past ≡ false
  pub b : (i : ℕ) → gives i input.faults.b ≡ true → (is_given i past ≡ false) × (gives i input.faults.a ≡ false)

-- no place is given away twice
abbrev pub GivesOnceIn : List InputData → Type 0
GivesOnceIn inputs = (past : List InputData) (input : InputData) (more : List InputData) → inputs ≡ past ++ input ∷ more
    → GivesOnce past input
