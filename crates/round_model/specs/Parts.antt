-- What a script says of a side: whether it is healthy, held, failed or exchanged in a tick.
use Rattle.std.specs.Prelude.{◌≡◌, ℕ, ◌+◌, ◌-◌, ◌<◌, Bool, true, false, not, ◌&&◌, ◌||◌, List, [], ◌∷◌, ◌++◌, length, take}
use Rattle.lift_base.specs.declared.Side.{Side}
use Rattle.lift_base.specs.declared.Side.TheVariants.{A, B}
use Rattle.lift_model.specs.Records.{InputData, SideFaultData}

abbrev pub faults_of : Side → InputData → SideFaultData
faults_of A input = input.faults.a
faults_of B input = input.faults.b

-- whether a side is failed after a tick, where it was before
abbrev pub failed_by : Bool → SideFaultData → Bool
failed_by was f = not f.exchange && (was || f.fail)

abbrev pub failed_from : Side → Bool → List InputData → Bool
failed_from side was [] = was
failed_from side was (input ∷ inputs) = failed_from side (failed_by was (faults_of side input)) inputs

-- some of these ticks has the side's failure, and no later one its exchange
abbrev pub has_failed : Side → List InputData → Bool
has_failed side inputs = failed_from side false inputs

-- what a side does in a round
pub data Part : Type 0 where
  Acting : Part
  Held : Part
  Failed : Part
  Exchanged : Part

-- by its exchange, whether it has failed, and its hold
abbrev pub part_by : Bool → Bool → Bool → Part
part_by true failed held = Exchanged
part_by false true held = Failed
part_by false false true = Held
part_by false false false = Acting

-- the part of a side in the tick that follows these
abbrev pub part_of : Side → List InputData → InputData → Part
part_of side past input =
    part_by (faults_of side input).exchange (failed_by (has_failed side past) (faults_of side input)) (faults_of side input).hold

-- a side fails once: not while it has failed; it is exchanged only where it has failed before, and does not fail in that tick too
pub record FailsOnceBy (failed : Bool) (f : SideFaultData) : Type 0 where
  pub fails : f.fail ≡ true → failed ≡ false
  pub exchanged : f.exchange ≡ true → failed ≡ true
  pub alone : f.exchange ≡ true → f.fail ≡ false

-- the failures and exchanges keep the script's rule
abbrev pub FailsOnce : List InputData → InputData → Type 0
FailsOnce past input = (side : Side) → FailsOnceBy (has_failed side past) (faults_of side input)

abbrev pub FailsOnceIn : List InputData → Type 0
FailsOnceIn inputs = (past : List InputData) (input : InputData) (more : List InputData) → inputs ≡ past ++ input ∷ more
    → FailsOnce past input

-- no tick from 1 to t - 1 has a failure or holds a side
abbrev pub CalmScript : List InputData → ℕ → Type 0
CalmScript inputs t = (past : List InputData) (input : InputData) (more : List InputData) → inputs ≡ past ++ input ∷ more
    → length past + 1 < t
    → (side : Side) → ((faults_of side input).fail ≡ false) × ((faults_of side input).hold ≡ false)

-- no tick from 1 to t - 1 has the side's failure, or a later one of them its exchange
abbrev pub is_healthy_by_script : Side → List InputData → ℕ → Bool
is_healthy_by_script side inputs t = not (has_failed side (take (t - 1) inputs))
