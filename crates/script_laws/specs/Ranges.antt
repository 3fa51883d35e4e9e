-- The ranges that a schedule that was read keeps.
use Rattle.std.specs.Prelude.{◌≡◌, ◌<◌, ◌≤◌, ◌^◌, length}
use Rattle.std.specs.List.{AllByRecursion}
use Rattle.core_model.specs.Schedule.{ActData, Tick, Step, Exchange, StepData}
use Rattle.core_model.specs.declared.SideStep.{SideStep}
use Rattle.core_model.specs.declared.SideStep.TheVariants.{RoguePublish, RogueCommand}
use Rattle.lift_config.specs.Ranges.{IsInRange}
use Rattle.script_model.specs.Faults.{no_faults}
use Rattle.script_model.specs.Judging.{ScriptData}
use Rattle.script_model.specs.Valid.{IsInput}

-- a word that a step of a side stores has 64 bits
abbrev pub HasLongWord : SideStep → Type 0
HasLongWord (RoguePublish word) = word < 2 ^ 64
HasLongWord (RogueCommand word) = word < 2 ^ 64
HasLongWord step = Unit {0}

-- the same of an act
abbrev pub IsAct : ActData → Type 0
IsAct Tick = Unit {0}
IsAct (Step side step) = HasLongWord step
IsAct (Exchange side) = Unit {0}

-- and of a written step
abbrev pub IsStep : StepData → Type 0
IsStep step = IsAct step.act

-- settings in range, at most as many inputs as ticks, inputs within the ranges of an Input and without faults, and steps whose words
-- have 64 bits
pub record IsSchedule (s : ScriptData) : Type 0 where
  pub config : IsInRange s.config
  pub few : length s.inputs ≤ s.config.ticks
  pub inputs : AllByRecursion IsInput s.inputs
  pub calm : AllByRecursion (λ i. i.faults ≡ no_faults) s.inputs
  pub steps : AllByRecursion IsStep s.steps
