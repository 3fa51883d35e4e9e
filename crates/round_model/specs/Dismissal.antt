-- What a side holds, by the script's lines alone: what a dismissal takes and a gift gives.
use Rattle.std.specs.Prelude.{◌≡◌, ℕ, Bool, true, ◌&&◌, List, [], ◌∷◌, ◌++◌, get_or, Option, Some, None, is_none}
use Rattle.lift_base.specs.declared.Side.{Side}
use Rattle.lift_model.specs.Plans.{Plan}
use Rattle.lift_model.specs.Records.{Settings, InputData, SideFaultData}
use Rattle.core_model.specs.Machine.{State}
use Rattle.round_model.specs.Holding.{held_in}
use Rattle.round_model.specs.Parts.{faults_of, part_of, Failed}
use Rattle.round_model.specs.Records.{TurnData, RoundData}
use Rattle.round_model.specs.Turns.{turn_of, IsFailedTurn, IsLegalRound}

-- no tick of these gives the side an object
abbrev pub none_given : Side → List InputData → Bool
none_given side [] = true
none_given side (input ∷ inputs) = is_none (faults_of side input).give && none_given side inputs

-- the turn of a failed side that stores the words of the script's lines and no others, and orders what they order
abbrev pub turn_by_lines : SideFaultData → ℕ → TurnData
turn_by_lines f seen = record {
  acted = true;
  failed = true;
  publish = f.publish;
  seen = seen;
  command = f.command;
  contactor =
      f.contactor;
}

-- the side holds this as it acts in the tick that follows these: where it has failed, it answers in each legal round what this tells
pub record Holds (crew : List (Option Plan)) (side : Side) (past : List InputData) (input : InputData) (plan : Option Plan) : Type 0 where
  pub held : held_in crew side past input ≡ plan
  pub turn : (config : Settings) (s : State) (round : RoundData) → s.trace ≡ past → part_of side past input ≡ Failed
      → IsLegalRound config crew s input round
      → IsFailedTurn (faults_of side input) plan (turn_of side round)

-- the side holds nothing as it acts in the tick that follows these: where it has failed, its turn in each legal round is by the lines alone
pub record HoldsNothing (crew : List (Option Plan)) (side : Side) (past : List InputData) (input : InputData) : Type 0 where
  pub held : held_in crew side past input ≡ None
  pub turn : (config : Settings) (s : State) (round : RoundData) → s.trace ≡ past → part_of side past input ≡ Failed
      → IsLegalRound config crew s input round
      → turn_of side round ≡ turn_by_lines (faults_of side input) (turn_of side round).seen

-- A side that is dismissed in a tick, and given none in it, holds nothing then.
abbrev pub DismissedHoldsNothing : Type 0
DismissedHoldsNothing = (crew : List (Option Plan)) (side : Side) (past : List InputData) (now : InputData)
    → (faults_of side now).dismiss ≡ true → (faults_of side now).give ≡ None → HoldsNothing crew side past now

-- Nor does it hold one in a later tick, up to which no line gives it one.
abbrev pub StaysDismissed : Type 0
StaysDismissed = (crew : List (Option Plan)) (side : Side) (past : List InputData) (away : InputData) (between : List InputData)
    (now : InputData)
    → (faults_of side away).dismiss ≡ true → none_given side (away ∷ between ++ now ∷ []) ≡ true
    → HoldsNothing crew side (past ++ away ∷ between) now

-- A side that is exchanged in a tick holds nothing in a later one, up to which no line gives it an object.
abbrev pub ExchangedHoldsNothing : Type 0
ExchangedHoldsNothing = (crew : List (Option Plan)) (side : Side) (past : List InputData) (anew : InputData) (between : List InputData)
    (now : InputData)
    → (faults_of side anew).exchange ≡ true → none_given side (between ++ now ∷ []) ≡ true
    → HoldsNothing crew side (past ++ anew ∷ between) now

-- A side that was never given one holds nothing.
abbrev pub NeverGivenHoldsNothing : Type 0
NeverGivenHoldsNothing = (crew : List (Option Plan)) (side : Side) (past : List InputData) (now : InputData)
    → none_given side (past ++ now ∷ []) ≡ true → HoldsNothing crew side past now

-- A side that is given the object of place i holds then what the crew tells of place i, also where the same tick dismisses.
abbrev pub GivenIsHeld : Type 0
GivenIsHeld = (crew : List (Option Plan)) (side : Side) (past : List InputData) (now : InputData) (i : ℕ)
    → (faults_of side now).give ≡ Some i → Holds crew side past now (get_or crew i None)
