-- A script of Form Simulate that was read has the wires and the true words alone. So a script that was read keeps its form.
use Rattle.std.proofs.Common.{◌≡◌, ◌+◌, ◌-◌, ◌++◌, Bool, true, false, List, [], ◌∷◌, ℕ, length, refl, subst, nat_lt, append-nil, get_or, replicate, ◌∙◌}
use Rattle.std.specs.Prelude.{not}
use Rattle.lift_base.specs.declared.forms.Form.{Form}
use Rattle.lift_base.specs.declared.forms.Form.TheVariants.{Replay, Schedule, Simulate}
use Rattle.core_model.specs.Schedule.{StepData}
use Rattle.script_model.specs.declared.Entry.{Entry}
use Rattle.script_model.specs.declared.Entry.TheVariants.{Blank, Frame, Wires, Truth, OfSide}
use Rattle.script_model.specs.declared.refusals.LineRefusal.TheVariants.{BadLine, TooManyTicks}
use Rattle.script_model.specs.Faults.{no_faults}
use Rattle.script_model.specs.Judging.{ScriptData, Place, More, Refused, at_entry, at_tick, has_entry, is_simulation, tick_steps, ticked, input_at, input_on}
use Rattle.script_model.specs.Meaning.{MeansScript}
use Rattle.script_model.specs.Rules.{HasWordsAlone, IsSimulation, KeepsForm}
use Rattle.script_model.proofs.Choices.{either}
use Rattle.script_model.proofs.Each.{all_both, all_same}
use Rattle.script_model.proofs.Kept.{Leads, IsKept, stands_behind}
use Rattle.script_model.proofs.RulesKept.{meant_keeps_rules}

abbrev Keeps : Place → Type 0
Keeps p = (p.form ≡ Simulate) × IsSimulation p.script × (p.frames ≡ []) × (p.faults ≡ no_faults)

not_here : (form : Form) → form ≡ Simulate → not (is_simulation form) ≡ true → ⊥
not_here Replay is has = cc
not_here Schedule is has = cc
not_here Simulate is has = cc

entry_leads : (p : Place) (number : ℕ) (entry : Entry) → Keeps p → has_entry p.form entry ≡ true → Leads Keeps (at_entry p number entry)
entry_leads p number Blank keeps has = keeps
entry_leads p number (Frame f) keeps has = absurd (not_here p.form keeps.0 has)
entry_leads p number (Wires a b) keeps has = either (Leads Keeps) p.wires_given (Refused BadLine) _ tt keeps
entry_leads p number (Truth j w) keeps has = either (Leads Keeps) (get_or p.truth_given (j - 1) false) (Refused BadLine) _ tt keeps
entry_leads p number (OfSide side l) keeps has = absurd (not_here p.form keeps.0 has)

no_steps : (form : Form) (number n : ℕ) (steps : List StepData) → form ≡ Simulate → steps ≡ [] → steps ++ tick_steps form number n ≡ []
no_steps Replay number n steps is none = absurd cc
no_steps Schedule number n steps is none = absurd cc
no_steps Simulate number n steps is none = append-nil steps ∙ none

ticks_lead : (p : Place) (number n : ℕ) → Keeps p → Leads Keeps (at_tick p number n)
ticks_lead p number n keeps =
    let none : HasWordsAlone (input_on p) = record { frames = refl; faults = refl } in
    let script : IsSimulation (ticked p number n).script = record {
      steps = no_steps p.form number n p.script.steps keeps.0 keeps.1.steps;
      inputs = all_both HasWordsAlone p.script.inputs (input_at p ∷ replicate (n - 1) (input_on p)) keeps.1.inputs
          (record { frames = keeps.2; faults = keeps.3 }, all_same HasWordsAlone (n - 1) (input_on p) none);
    } in
    either (Leads Keeps) (nat_lt p.script.config.ticks (length p.script.inputs + n)) (Refused TooManyTicks) (More
    (ticked p number n)) tt
    (keeps.0, script, refl, refl)

kept : (places : List Bool) → IsKept Simulate places Keeps
kept places = record {
  start = λ head c is. (refl, record { steps = refl; inputs = tt }, refl, refl);
  entry = λ p number text entry keeps is has. entry_leads p number entry keeps has;
  ticks = λ p number text n keeps is. ticks_lead p number n keeps;
}

pub meant_is_simulation : (places : List Bool) (text : List ℕ) (s : ScriptData) → MeansScript Simulate places text s → IsSimulation s
meant_is_simulation places text s means =
    let (p, keeps, is) = stands_behind Simulate places Keeps (kept places) text s means in
    subst IsSimulation is keeps.1

-- ---- each form

pub meant_keeps_form : (form : Form) (places : List Bool) (text : List ℕ) (s : ScriptData) → MeansScript form places text s
    → KeepsForm form places s
meant_keeps_form Replay places text s means = meant_keeps_rules places text s means
meant_keeps_form Schedule places text s means = tt
meant_keeps_form Simulate places text s means = meant_is_simulation places text s means
