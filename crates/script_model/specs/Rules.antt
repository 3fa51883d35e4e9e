-- What a text of each form gives of its script.
use Rattle.std.specs.Prelude.{ℕ, ◌≡◌, Bool, true, false, List, [], get_or}
use Rattle.std.specs.List.{AllByRecursion}
use Rattle.lift_base.specs.declared.forms.Form.{Form}
use Rattle.lift_base.specs.declared.forms.Form.TheVariants.{Replay, Schedule, Simulate}
use Rattle.lift_model.specs.Records.{InputData}
use Rattle.round_model.specs.Giving.{is_given, GivesOnceIn}
use Rattle.round_model.specs.Parts.{FailsOnceIn}
use Rattle.script_model.specs.Faults.{no_faults}
use Rattle.script_model.specs.Judging.{ScriptData}

-- Of Form Replay: it has no steps. No side fails twice, no place of the crew is given away twice, and each place that is given holds an
-- object.
pub record KeepsRules (places : List Bool) (s : ScriptData) : Type 0 where
  pub steps : s.steps ≡ []
  pub fails : FailsOnceIn s.inputs
  pub gives : GivesOnceIn s.inputs
  pub held : (i : ℕ) → is_given i s.inputs ≡ true → get_or places i false ≡ true

-- a tick of wires and true words alone
pub record HasWordsAlone (i : InputData) : Type 0 where
  pub frames : i.frames ≡ []
  pub faults : i.faults ≡ no_faults

-- Of Form Simulate: no steps, no frames and no faults.
pub record IsSimulation (s : ScriptData) : Type 0 where
  pub steps : s.steps ≡ []
  pub inputs : AllByRecursion HasWordsAlone s.inputs

-- so what a text of a form gives of its script, for a crew with these places
abbrev pub KeepsForm : Form → List Bool → ScriptData → Type 0
KeepsForm Replay places s = KeepsRules places s
KeepsForm Schedule places s = Unit {0}
KeepsForm Simulate places s = IsSimulation s
