-- The events that a round stands for.
use Rattle.std.specs.Prelude.{ℕ, Bool, true, false, ◌==◌, if◌then◌else◌, List, [], ◌∷◌, ◌++◌, Option, Some, None}
use Rattle.lift_base.specs.declared.Override.{Override}
use Rattle.lift_base.specs.declared.Override.TheVariants.{Keep, Follow, Force}
use Rattle.lift_base.specs.declared.Side.{Side}
use Rattle.lift_base.specs.declared.Side.TheVariants.{A, B}
use Rattle.lift_model.specs.Records.{InputData}
use Rattle.core_model.specs.Due.{four_steps}
use Rattle.core_model.specs.Machine.{State, Event, Tick, Step, Exchange, other}
use Rattle.core_model.specs.declared.SideStep.TheVariants.{Fail, Sample, Publish, Look, Command, RoguePublish, RogueCommand, RogueContactor}
use Rattle.round_model.specs.Parts.{faults_of, Part, part_of, Acting, Held, Failed, Exchanged}
use Rattle.round_model.specs.Records.{TurnData, RoundData}
use Rattle.round_model.specs.Turns.{turn_of, published_by}

abbrev pub publish_act : Side → Option ℕ → List Event
publish_act side None = []
publish_act side (Some word) = Step side (RoguePublish word) ∷ []

abbrev pub command_act : Side → Option ℕ → List Event
command_act side None = []
command_act side (Some word) = Step side (RogueCommand word) ∷ []

abbrev pub contactor_act : Side → Override → List Event
contactor_act side Keep = []
contactor_act side Follow = Step side (RogueContactor Follow) ∷ []
contactor_act side (Force k) = Step side (RogueContactor (Force k)) ∷ []

-- what a side does that is not acting
abbrev pub acts : Part → Side → TurnData → List Event
acts Acting side turn = []
acts Held side turn = []
acts Failed side turn = publish_act side turn.publish ++ (command_act side turn.command ++ contactor_act side turn.contactor)
acts Exchanged side turn = Exchange side ∷ []

-- the first looks before the second publishes, and commands first
abbrev pub one_looks_first : Side → Side → List Event
one_looks_first first second =
    Step first Sample ∷ Step first Publish ∷ Step first Look
    ∷ Step second Sample ∷ Step second Publish ∷ Step second Look ∷ Step first Command ∷ Step second Command ∷ []

-- both publish before either looks
abbrev pub side_by_side : List Event
side_by_side =
    Step A Sample ∷ Step B Sample ∷ Step A Publish ∷ Step B Publish
    ∷ Step A Look ∷ Step B Look ∷ Step A Command ∷ Step B Command ∷ []

-- what the two do, by their parts and by whether each saw the other's new word
abbrev pub moves : Part → Part → Bool → Bool → RoundData → List Event
moves Acting Acting false b_new round = one_looks_first A B
moves Acting Acting true false round = one_looks_first B A
moves Acting Acting true true round = side_by_side
moves Acting q true b_new round = acts q B round.b ++ four_steps A
moves Acting q false b_new round = four_steps A ++ acts q B round.b
moves p Acting a_new true round = acts p A round.a ++ four_steps B
moves p Acting a_new false round = four_steps B ++ acts p A round.a
moves p q a_new b_new round = acts p A round.a ++ acts q B round.b

abbrev pub fail_of : Side → InputData → List Event
fail_of side input = if (faults_of side input).fail then Step side Fail ∷ [] else []

abbrev pub saw_new : State → RoundData → Side → Bool
saw_new s round side = (turn_of side round).seen == published_by s round (other side)

abbrev pub events_of : State → InputData → RoundData → List Event
events_of s input round =
    Tick input ∷ (fail_of A input ++ (fail_of B input ++
    moves (part_of A s.trace input) (part_of B s.trace input) (saw_new s round A) (saw_new s round B) round))
