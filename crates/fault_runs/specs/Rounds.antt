-- The events of a run on the core, in one order of the looks. All own.
use Rattle.std.specs.Prelude.{◌≡◌, Bool, true, false, if◌then◌else◌, List, [], ◌∷◌, ◌++◌}
use Rattle.lift_base.specs.declared.Side.{Side}
use Rattle.lift_base.specs.declared.Side.TheVariants.{A, B}
use Rattle.lift_model.specs.Records.{Settings, InputData, SideFaultData}
use Rattle.core_model.specs.Due.{four_steps}
use Rattle.core_model.specs.Machine.{State, Event, Tick, Exchange, side_of, start}
use Rattle.core_model.specs.Runs.{CoreRun, after_all}
use Rattle.core_model.specs.Settling.{Settled}
use Rattle.lift_core.specs.Parts.{CoreData}
use Rattle.lift_core.specs.StandsFor.{StandsFor}
use Rattle.round_model.specs.Events.{publish_act, command_act, contactor_act, fail_of, one_looks_first, side_by_side}
use Rattle.round_model.specs.Parts.{Part, Acting, Held, Failed, Exchanged, faults_of, part_by, failed_by}
use Rattle.fault_plan.specs.declared.words.TickWords.{TickWords}
use Rattle.fault_runs.specs.declared.looks.Looks.{Looks}
use Rattle.fault_runs.specs.declared.looks.Looks.TheVariants.{BothNew, AOld, BOld}
use Rattle.fault_runs.specs.declared.rounds.Part.{Part as Given}
use Rattle.fault_runs.specs.declared.rounds.Part.TheVariants as given

-- the program's part of a side as one of the model
abbrev pub part_data : Given → Part
part_data given.Acting = Acting
part_data given.Held = Held
part_data given.Failed = Failed
part_data given.Exchanged = Exchanged

-- the part of a side in the round after this state, whose tick is to come
abbrev pub part_at : Side → State → InputData → Part
part_at side s input =
    let f = faults_of side input in
    part_by f.exchange (failed_by (side_of side s).failed f) f.hold

abbrev pub is_acting : Part → Bool
is_acting Acting = true
is_acting part = false

-- what a side does that has this part; one that has failed stores what its lines say
abbrev pub steps_of : Part → Side → SideFaultData → List Event
steps_of Acting side f = four_steps side
steps_of Held side f = []
steps_of Failed side f = publish_act side f.publish ++ (command_act side f.command ++ contactor_act side f.contactor)
steps_of Exchanged side f = Exchange side ∷ []

-- what two healthy sides do
abbrev pub both_act : Looks → List Event
both_act BothNew = side_by_side
both_act AOld = one_looks_first A B
both_act BOld = one_looks_first B A

-- the side that moves first where not both act as healthy sides, by whether A does: the one that is to see the old word, and else the one
-- that does not look as a healthy side
abbrev pub first_of : Looks → Bool → Side
first_of AOld acts = A
first_of BOld acts = B
first_of BothNew acts = if acts then B else A

-- the steps of A and of B, those of this side first
abbrev pub in_order : Side → List Event → List Event → List Event
in_order A of_a of_b = of_a ++ of_b
in_order B of_a of_b = of_b ++ of_a

-- what the two do, by their parts
abbrev pub moves_in : Looks → Part → Part → InputData → List Event
moves_in looks Acting Acting input = both_act looks
moves_in looks a b input = in_order (first_of looks (is_acting a)) (steps_of a A input.faults.a) (steps_of b B input.faults.b)

-- a tick, and the sides that fail at it
abbrev pub begins : InputData → List Event
begins input = Tick input ∷ (fail_of A input ++ fail_of B input)

-- a tick and the round after it
abbrev pub events_in : Looks → State → InputData → List Event
events_in looks s input = begins input ++ moves_in looks (part_at A s input) (part_at B s input) input

-- these events lead from one core to the other: the second stands for those of the first, and these after them
abbrev pub Leads : {CA CB : Type 0} → (CA → Settings → List InputData → Type 0) → (CB → Settings → List InputData → Type 0)
    → CoreData CA CB → CoreData CA CB → List Event → Type 0
Leads stands_a stands_b core later more = (config : Settings) (events : List Event)
    → StandsFor stands_a stands_b core config events → StandsFor stands_a stands_b later config (events ++ more)

-- the words that the sides have stored
abbrev pub words_at : State → TickWords
words_at s = record {
  a = record { publish = s.a.publish; command = s.a.command };
  b = record { publish = s.b.publish; command = s.b.command };
}

-- one round after the other, from the start: the inputs, the events, the words as each round ended, and the state that the last one leaves
pub data RunsIn (config : Settings) (looks : Looks) : List InputData → List Event → List TickWords → State → Type 0 where
  no_rounds : RunsIn config looks [] [] [] start
  then_round : {inputs : List InputData} {events : List Event} {words : List TickWords} {s : State}
      → RunsIn config looks inputs events words s → (input : InputData)
      → RunsIn config looks (inputs ++ input ∷ []) (events ++ events_in looks s input)
      (words ++ words_at (after_all config s (events_in looks s input)) ∷ []) (after_all config s (events_in looks s input))

-- the path and the words are those of the core run that takes these inputs in this order of the looks
pub record IsCoreRun (config : Settings) (looks : Looks) (inputs : List InputData) (path : List Settled) (words : List TickWords)
    : Type 0 where
  pub events : List Event
  pub state : State
  pub rounds : RunsIn config looks inputs events words state
  pub run : CoreRun config events state
  pub same_path : path ≡ state.path
