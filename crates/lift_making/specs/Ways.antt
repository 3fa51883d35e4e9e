-- What a run of a script is, by the way that the script is run.
use Rattle.std.specs.Prelude.{ℕ, ◌≡◌, ◌<◌, ◌^◌, false, List, [], ◌∷◌, ◌++◌, map}
use Rattle.std.specs.declared.option.Option.{Option}
use Rattle.std.specs.declared.option.Option.TheVariants.{None, Some}
use Rattle.lift_model.specs.Plans.{Plan}
use Rattle.lift_model.specs.Records.{Settings, InputData}
use Rattle.core_model.specs.Machine.{State, Event, enabled}
use Rattle.core_model.specs.Runs.{CoreRun}
use Rattle.core_model.specs.Schedule.{ActData, StepData, scheduled}
use Rattle.core_model.specs.Settling.{Settled}
use Rattle.round_model.specs.Lawful.{IsScript, Legal}
use Rattle.round_model.specs.Records.{RoundData}
use Rattle.saboteur.specs.Held.{places_in}
use Rattle.script_model.specs.Judging.{ScriptData}
use Rattle.script_model.specs.Rules.{KeepsRules}
use Rattle.lift_making.specs.Jobs.{Way, ByRounds, BySteps}

-- what running it so asks of the script
abbrev pub Suits : Way → ScriptData → Type 0
Suits (ByRounds crew) script = KeepsRules (places_in crew) script
Suits BySteps script = Unit {0}

-- ---- by rounds

-- the script fits its head, the rounds are legal for it and for a crew that tells these plans, and these are their events
pub record AreRounds (crew : List (Option Plan)) (script : ScriptData) (rounds : List RoundData) (events : List Event)
    (s : State) : Type 0 where
  pub fits : IsScript script.config script.inputs
  pub legal : Legal script.config crew script.inputs rounds events s

-- ---- by steps

abbrev pub acts_of : List StepData → List ActData
acts_of steps = map (λ (s : StepData). s.act) steps

-- the events that the first steps of a schedule stand for over these inputs
abbrev pub events_of : List InputData → List StepData → List Event
events_of inputs steps = scheduled inputs (acts_of steps)

-- the events are those of the steps before the one of this line, which was not possible behind them
pub record StopsAt (config : Settings) (inputs : List InputData) (steps : List StepData) (line : ℕ) (events : List Event)
    (s : State) : Type 0 where
  pub before : List StepData
  pub step : StepData
  pub after : List StepData
  pub split : steps ≡ before ++ step ∷ after
  pub number : step.line ≡ line
  pub front : events ≡ events_of inputs before
  pub event : Event
  pub next : events_of inputs (before ++ step ∷ []) ≡ events ++ event ∷ []
  pub bad : enabled config s event ≡ false

-- the events are those of all steps, or of those before the one that was not possible
abbrev pub AreSteps : Settings → List InputData → List StepData → Option ℕ → List Event → State → Type 0
AreSteps config inputs steps None events s = events ≡ events_of inputs steps
AreSteps config inputs steps (Some line) events s = StopsAt config inputs steps line events s

-- ---- a run

-- the events are those of the script as far as it was run; a schedule tells no rounds
abbrev pub AreOf : Way → ScriptData → Option ℕ → List RoundData → List Event → State → Type 0
AreOf (ByRounds crew) script stopped rounds events s = (stopped ≡ None) × AreRounds crew script rounds events s
AreOf BySteps script stopped rounds events s = (rounds ≡ []) × AreSteps script.config script.inputs script.steps stopped events s

-- The script was run, to its end or up to the step of this line that was not possible, with these rounds and this path: the events are
-- a run of the machine, and the path is what it settled.
pub record RunOf (way : Way) (script : ScriptData) (stopped : Option ℕ) (rounds : List RoundData) (path : List Settled) : Type 0 where
  pub few : script.config.ticks < 2 ^ 24
  pub events : List Event
  pub state : State
  pub core : CoreRun script.config events state
  pub settled : state.path ≡ path
  pub are_of : AreOf way script stopped rounds events state

-- it can be run to its end
abbrev pub IsPossible : Way → ScriptData → Type 0
IsPossible (ByRounds crew) script = Unit {0}
IsPossible BySteps script = (s : State) × CoreRun script.config (events_of script.inputs script.steps) s
