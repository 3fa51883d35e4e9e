-- The steps that a text says, counted.
use Rattle.std.specs.Prelude.{ℕ, ◌≡◌, ◌+◌, List, [], ◌∷◌, length}
use Rattle.lift_base.specs.declared.forms.Form.{Form}
use Rattle.lift_base.specs.declared.forms.Form.TheVariants.{Replay, Schedule, Simulate}
use Rattle.core_model.specs.Schedule.{ActData, Tick, StepData}
use Rattle.script_model.specs.Judging.{ScriptData}

abbrev pub ticks_of : ActData → ℕ
ticks_of Tick = 1
ticks_of act = 0

-- how many of these steps are ticks
abbrev pub ticks_in : List StepData → ℕ
ticks_in [] = 0
ticks_in (s ∷ steps) = ticks_of s.act + ticks_in steps

-- a schedule has a tick among its steps for each input; the other forms have no steps
abbrev pub HasItsSteps : Form → ScriptData → Type 0
HasItsSteps Replay s = s.steps ≡ []
HasItsSteps Schedule s = ticks_in s.steps ≡ length s.inputs
HasItsSteps Simulate s = s.steps ≡ []
