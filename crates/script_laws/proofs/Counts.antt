-- Each line keeps the steps that a script of its form has.
use Rattle.std.proofs.Common.{◌≡◌, ◌≤◌, ◌+◌, ◌-◌, ◌++◌, Bool, Option, None, Some, List, [], ◌∷◌, ℕ, zero, suc, length, refl, sym, ◌∙◌, subst, arith, true, false, nat_lt, length-append, append-nil, get_or, set, replicate}
use Rattle.std.proofs.lemmas.List.{length-replicate}
use Rattle.lift_base.specs.declared.limits.TheConstants.{MOST_FRAMES}
use Rattle.core_model.specs.Schedule.{Tick, StepData}
use Rattle.lift_base.specs.declared.Side.{Side}
use Rattle.lift_base.specs.declared.forms.Form.{Form}
use Rattle.lift_base.specs.declared.forms.Form.TheVariants.{Replay, Schedule, Simulate}
use Rattle.lift_model.specs.Records.{Settings, InputData}
use Rattle.script_model.specs.declared.Line.TheVariants as line
use Rattle.script_model.specs.declared.Entry.TheVariants.{Blank, Frame, Wires, Truth, OfSide}
use Rattle.script_model.specs.declared.Entry.{Entry}
use Rattle.script_model.specs.declared.refusals.LineRefusal.TheVariants.{BadLine, TooManyTicks, TooManyFrames}
use Rattle.script_model.specs.declared.acts.Act.{Act}
use Rattle.script_model.specs.declared.sides.SideLine.{SideLine}
use Rattle.script_model.specs.declared.sides.SideLine.TheVariants.{Hold, Give, Dismiss}
use Rattle.script_model.specs.Faults.{may_come, faults_with, act_of}
use Rattle.script_model.specs.Lines.{line_of}
use Rattle.script_model.specs.Judging.{ScriptData, Place, More, Refused, at_entry, at_tick, at_step, side_line_in, tick_steps, ticked, waits, input_at, input_on, at_start}
use Rattle.script_model.specs.Meaning.{MeansScript}
use Rattle.script_model.specs.Acts.{act_data}
use Rattle.script_laws.specs.Steps.{ticks_of, ticks_in, HasItsSteps}
use Rattle.script_model.proofs.Choices.{either}
use Rattle.script_model.proofs.Kept.{Leads, IsKept, stands_behind}
use Rattle.script_laws.proofs.LineForms.{line_spells}

ticks_both : (xs ys : List StepData) → ticks_in (xs ++ ys) ≡ ticks_in xs + ticks_in ys
ticks_both [] ys = omega arith
ticks_both (x ∷ xs) ys = omega (arith, ticks_both xs ys)

ticks_all : (number n : ℕ) → ticks_in (replicate n (record { line = number; act = Tick })) ≡ n
ticks_all number zero = refl
ticks_all number (suc n) = omega (arith, ticks_all number n)

-- ---- a line

abbrev Keeps : Form → Place → Type 0
Keeps form p = (p.form ≡ form) × HasItsSteps form p.script

no_tick : (side : Side) (l : SideLine) (act : Act) → act_of side l ≡ Some act → ticks_of (act_data act) ≡ 0
no_tick side Hold act is = absurd cc
no_tick side (Give i) act is = absurd cc
no_tick side Dismiss act is = absurd cc
no_tick side l act is = let same : ticks_of (act_data act) ≡ 0 = cc in same

step_leads : (p : Place) (number : ℕ) (act : Option Act) → Keeps Schedule p → ((a : Act) → act ≡ Some a → ticks_of (act_data a) ≡ 0)
    → Leads (Keeps Schedule) (at_step p number act)
step_leads p number None keeps none = tt
step_leads p number (Some act) keeps none =
    let all = ticks_both p.script.steps (record { line = number; act = act_data act } ∷ []) in
    (keeps.0, omega (arith, all, none act refl, keeps.1))

side_leads : (form : Form) (p : Place) (number : ℕ) (side : Side) (l : SideLine) → Keeps form p
    → Leads (Keeps form) (side_line_in form p number side l)
side_leads Replay p number side l keeps =
    either (Leads (Keeps Replay)) (may_come p.standings p.faults side l)
    (More (record (waits p) { faults = faults_with p.faults side l })) (Refused BadLine) keeps tt
side_leads Schedule p number side l keeps = step_leads p number (act_of side l) keeps (no_tick side l)
side_leads Simulate p number side l keeps =
    either (Leads (Keeps Simulate)) (may_come p.standings p.faults side l)
    (More (record (waits p) { faults = faults_with p.faults side l })) (Refused BadLine) keeps tt

entry_leads : (form : Form) (p : Place) (number : ℕ) (entry : Entry) → Keeps form p → Leads (Keeps form) (at_entry p number entry)
entry_leads form p number Blank keeps = keeps
entry_leads form p number (Frame f) keeps =
    either (Leads (Keeps form)) (nat_lt (length p.frames) MOST_FRAMES) (More (record (waits p) { frames = p.frames ++ f ∷ [] }))
    (Refused TooManyFrames) keeps tt
entry_leads form p number (Wires a b) keeps =
    either (Leads (Keeps form)) p.wires_given (Refused BadLine)
    (More (record (waits p) { words = record { a = a; b = b }; wires_given = true })) tt keeps
entry_leads form p number (Truth j w) keeps =
    either (Leads (Keeps form)) (get_or p.truth_given (j - 1) false) (Refused BadLine)
    (More (record (waits p) { truth = set p.truth (j - 1) w; truth_given = set p.truth_given (j - 1) true })) tt keeps
entry_leads form p number (OfSide side l) keeps =
    subst (λ (x : Form). Leads (Keeps form) (side_line_in x p number side l)) (sym keeps.0) (side_leads form p number side l keeps)

ticked_has : (form : Form) (s : ScriptData) (number n : ℕ) (first next : InputData) → 1 ≤ n → HasItsSteps form s
    → HasItsSteps form (record s { inputs = s.inputs ++ first ∷ replicate (n - 1) next; steps = s.steps ++ tick_steps form number n })
ticked_has Replay s number n first next some has = append-nil s.steps ∙ has
ticked_has Schedule s number n first next some has =
    let steps = ticks_both s.steps (replicate n (record { line = number; act = Tick })) in
    let inputs = length-append s.inputs (first ∷ replicate (n - 1) next) in
    omega (arith, steps, ticks_all number n, inputs, length-replicate (n - 1) next, has)
ticked_has Simulate s number n first next some has = append-nil s.steps ∙ has

ticks_lead : (form : Form) (p : Place) (number n : ℕ) → 1 ≤ n → Keeps form p → Leads (Keeps form) (at_tick p number n)
ticks_lead form p number n some keeps =
    let has = subst (λ (x : Form). HasItsSteps form (record p.script {
      inputs = p.script.inputs ++ input_at p ∷ replicate (n - 1) (input_on p);
      steps = p.script.steps ++ tick_steps x number n;
    })) (sym keeps.0) (ticked_has form p.script number n (input_at p) (input_on p) some keeps.1) in
    either (Leads (Keeps form)) (nat_lt p.script.config.ticks (length p.script.inputs + n)) (Refused TooManyTicks)
    (More (ticked p number n)) tt (keeps.0, has)

-- ---- a script

some_ticks : (text : List ℕ) (n : ℕ) → line_of text ≡ Some (line.Tick n) → 1 ≤ n
some_ticks text n is = (line_spells text (line.Tick n) is).1

start_keeps : (form : Form) (places : List Bool) (c : Settings) → Keeps form (at_start form places c)
start_keeps Replay places c = (refl, refl)
start_keeps Schedule places c = (refl, refl)
start_keeps Simulate places c = (refl, refl)

pub meant_has : (form : Form) (places : List Bool) (text : List ℕ) (s : ScriptData) → MeansScript form places text s → HasItsSteps form s
meant_has form places text s means =
    let kept : IsKept form places (Keeps form) = record {
      start = λ head c is. start_keeps form places c;
      entry = λ p number line entry keeps is of_form. entry_leads form p number entry keeps;
      ticks = λ p number line n keeps is. ticks_lead form p number n (some_ticks line n is) keeps;
    } in
    let (p, keeps, is) = stands_behind form places (Keeps form) kept text s means in
    subst (HasItsSteps form) is keeps.1
