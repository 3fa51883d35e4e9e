-- What a reader stands for.
use Rattle.std.specs.Prelude.{ℕ, ◌≡◌, Bool, List}
use Rattle.lift_base.specs.declared.forms.Form.{Form}
use Rattle.script_model.specs.Judging.{ScriptData}
use Rattle.script_model.specs.Meaning.{Reading, Ended, reading}
use Rattle.fault_script.specs.declared.fed.Fed.{Fed}
use Rattle.fault_script.specs.declared.fed.Fed.TheVariants as fed
use Rattle.fault_script.specs.declared.reader.State.{State}
use Rattle.fault_script.specs.declared.reader.State.TheVariants as state
use Rattle.fault_script.specs.Refusals.{Stops}
use Rattle.fault_script.specs.Views.{in_head, in_line}

-- a reader has come to this reading
unfoldable pub Stands : State → Reading → Type 0
Stands (state.Head h) r = r ≡ in_head h
Stands (state.Body b) r = (used : ℕ) × (r ≡ in_line b used)
Stands (state.Ended script) r = (used : ℕ) × (r ≡ Ended script used)
Stands (state.Stopped fault) r = Stops fault r

-- a reader of this form, for a crew with these places, was fed this text
abbrev pub HasRead : State → Form → List Bool → List ℕ → Type 0
HasRead s form places text = Stands s (reading form places text)

-- the head was read, or the text was refused
abbrev pub IsPastHead : State → Type 0
IsPastHead (state.Head h) = ⊥
IsPastHead (state.Body b) = Unit {0}
IsPastHead (state.Ended script) = Unit {0}
IsPastHead (state.Stopped fault) = Unit {0}

-- where the text has ended, the reader has its script
abbrev pub IsOver : Fed → State → Type 0
IsOver fed.More s = Unit {0}
IsOver (fed.Ended k) s = (script : ScriptData) × (s ≡ state.Ended script)
