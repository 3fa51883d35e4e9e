-- The events that the written steps of a script stand for. All own.
use Rattle.std.specs.Prelude.{ℕ, List, [], ◌∷◌, ◌++◌, map, take, drop}
use Rattle.lift_model.specs.Enums.{Side}
use Rattle.lift_model.specs.Records.{InputData}
use Rattle.core_model.specs.Machine.{Event}
use Rattle.core_model.specs.Machine as machine
use Rattle.core_model.specs.declared.SideStep.{SideStep}

-- what a written step is: a tick with the next input, a step of a side, or its exchange for a new one
pub data ActData : Type 0 where
  Tick : ActData
  Step : (side : Side) (step : SideStep) → ActData
  Exchange : (side : Side) → ActData

-- a written step, and the line that it stands in
pub record StepData : Type 0 where
  pub line : ℕ
  pub act : ActData

-- the k-th act Tick is Tick of the k-th input, and the other acts keep their places; a Tick after the last input stands for nothing
abbrev pub scheduled : List InputData → List ActData → List Event
scheduled inputs [] = []
scheduled inputs (Tick ∷ acts) = map machine.Tick (take 1 inputs) ++ scheduled (drop 1 inputs) acts
scheduled inputs (Step side step ∷ acts) = machine.Step side step ∷ scheduled inputs acts
scheduled inputs (Exchange side ∷ acts) = machine.Exchange side ∷ scheduled inputs acts
