-- Each line keeps the ranges that a script is in.
use Rattle.lift_base.specs.declared.TheConstants.{SOURCES}
use Rattle.std.proofs.Common.{◌≡◌, ◌<◌, ◌≤◌, ◌+◌, ◌-◌, ◌^◌, ◌++◌, List, [], ◌∷◌, ℕ, zero, suc, length, refl, ◌∙◌, subst, arith, true, false, Bool, nat_lt, length-append, get_or, set, replicate, sym, Ok, Option, None, Some}
use Rattle.std.specs.List.{AllByRecursion}
use Rattle.std.proofs.lemmas.List.{length-replicate, length-set}
use Rattle.lift_base.specs.declared.limits.TheConstants.{MOST_FRAMES}
use Rattle.can_frame.specs.Frames.{IsFrameData}
use Rattle.core_model.specs.Schedule.{Tick}
use Rattle.lift_base.specs.declared.Side.{Side}
use Rattle.lift_base.specs.declared.Side.TheVariants.{A, B}
use Rattle.lift_base.specs.declared.forms.Form.{Form}
use Rattle.lift_base.specs.declared.forms.Form.TheVariants.{Replay, Schedule, Simulate}
use Rattle.lift_config.specs.Head.{read_head}
use Rattle.lift_config.specs.Ranges.{IsInRange}
use Rattle.lift_model.specs.Records.{Settings, FrameData, InputData, SideFaultData}
use Rattle.script_model.specs.declared.Line.TheVariants as line
use Rattle.script_model.specs.declared.Entry.TheVariants.{Blank, Frame, Wires, Truth, OfSide}
use Rattle.script_model.specs.declared.Entry.{Entry}
use Rattle.script_model.specs.declared.refusals.LineRefusal.TheVariants.{BadLine, TooManyTicks, TooManyFrames}
use Rattle.script_model.specs.declared.acts.Act.{Act}
use Rattle.script_model.specs.declared.acts.Act.TheVariants as act
use Rattle.script_model.specs.declared.sides.SideLine.{SideLine}
use Rattle.script_model.specs.declared.sides.SideLine.TheVariants.{Exchange, Fail, Word, Value, Contactor, Give, Sample, Publish, Look, Command}
use Rattle.script_model.specs.Faults.{no_fault, no_faults, may_come, with_line, faults_with, act_of}
use Rattle.script_model.specs.Judging.{ScriptData, Place, More, Refused, at_start, at_entry, at_tick, at_step, side_line_in, tick_steps, ticked, waits, input_at, input_on}
use Rattle.script_model.specs.Meaning.{MeansScript}
use Rattle.script_model.specs.Acts.{act_data}
use Rattle.script_model.specs.Valid.{IsSideLine, AreFaults, IsInput, IsReplay}
use Rattle.script_model.proofs.RulesKept.{meant_may_follow}
use Rattle.script_laws.specs.Ranges.{IsAct, IsStep, IsSchedule}
use Rattle.script_model.proofs.Choices.{either, either_by}
use Rattle.script_model.proofs.Each.{all_both, all_same}
use Rattle.script_laws.proofs.Counts.{meant_has}
use Rattle.script_laws.proofs.Groups.{all_more}
use Rattle.script_laws.proofs.HeadInRange.{head_in_range}
use Rattle.script_model.proofs.Kept.{Leads, IsKept, stands_behind}
use Rattle.script_laws.proofs.LineForms.{Spells, line_spells}
use Rattle.script_laws.proofs.Walks.{under, not_under}

all_set : {A : Type 0} (P : A → Type 0) (xs : List A) (i : ℕ) (x : A) → AllByRecursion P xs → P x → AllByRecursion P (set xs i x)
all_set P [] i x each is = tt
all_set P (y ∷ xs) zero x each is = (is, each.1)
all_set P (y ∷ xs) (suc i) x each is = (each.0, all_set P xs i x each.1 is)

-- ---- faults

fault_in_range : (f : SideFaultData) (l : SideLine) → AreFaults f → IsSideLine l → AreFaults (with_line f l)
fault_in_range f (Word w) is fits = record { publish = fits; command = is.command; give = is.give }
fault_in_range f (Value w) is fits = record { publish = is.publish; command = fits; give = is.give }
fault_in_range f (Give i) is fits = record { publish = is.publish; command = is.command; give = fits }
fault_in_range f l is fits = record { publish = is.publish; command = is.command; give = is.give }

no_fault_in_range : AreFaults no_fault
no_fault_in_range = record { publish = tt; command = tt; give = tt }

-- ---- an input

with_fault : (i : InputData) (side : Side) (l : SideLine) → IsInput i → IsSideLine l
    → IsInput (record i { faults = faults_with i.faults side l })
with_fault i A l is fits = record {
  few = is.few;
  frames = is.frames;
  a = is.a;
  b = is.b;
  sources = is.sources;
  truth = is.truth;
  faults_a = fault_in_range i.faults.a l is.faults_a fits;
  faults_b = is.faults_b;
}
with_fault i B l is fits = record {
  few = is.few;
  frames = is.frames;
  a = is.a;
  b = is.b;
  sources = is.sources;
  truth = is.truth;
  faults_a = is.faults_a;
  faults_b = fault_in_range i.faults.b l is.faults_b fits;
}

with_frame : (i : InputData) (f : FrameData) → IsInput i → length i.frames < 16 → IsFrameData f
    → IsInput (record i { frames = i.frames ++ f ∷ [] })
with_frame i f is room fits =
    let grown : length (i.frames ++ f ∷ []) ≡ length i.frames + 1 = simp length-append in
    record {
      few = omega arith;
      frames = all_more IsFrameData i.frames f is.frames fits;
      a = is.a;
      b = is.b;
      sources = is.sources;
      truth = is.truth;
      faults_a = is.faults_a;
      faults_b = is.faults_b;
    }

with_words : (i : InputData) (a b : ℕ) → IsInput i → a < 2 ^ 16 → b < 2 ^ 16 → IsInput (record i { words = record { a = a; b = b } })
with_words i a b is first second = record {
  few = is.few;
  frames = is.frames;
  a = first;
  b = second;
  sources = is.sources;
  truth = is.truth;
  faults_a = is.faults_a;
  faults_b = is.faults_b;
}

with_truth : (i : InputData) (j w : ℕ) → IsInput i → w < 2 ^ 16 → IsInput (record i { truth = set i.truth j w })
with_truth i j w is fits = record {
  few = is.few;
  frames = is.frames;
  a = is.a;
  b = is.b;
  sources = length-set i.truth j w ∙ is.sources;
  truth = all_set (λ x. x < 2 ^ 16) i.truth j w is.truth fits;
  faults_a = is.faults_a;
  faults_b = is.faults_b;
}

going_on : (i : InputData) → IsInput i → IsInput (record { frames = []; words = i.words; truth = i.truth; faults = no_faults })
going_on i is = record {
  few = omega arith;
  frames = tt;
  a = is.a;
  b = is.b;
  sources = is.sources;
  truth = is.truth;
  faults_a = no_fault_in_range;
  faults_b = no_fault_in_range;
}

-- ---- a line

-- the ranges of every script
record IsRanged (s : ScriptData) : Type 0 where
  config : IsInRange s.config
  few : length s.inputs ≤ s.config.ticks
  inputs : AllByRecursion IsInput s.inputs
  steps : AllByRecursion IsStep s.steps

-- the script so far is in range, and so would be the input of a tick here
abbrev IsIn : Place → Type 0
IsIn p = IsRanged p.script × IsInput (input_at p)

act_in_range : (side : Side) (l : SideLine) (a : Act) → IsSideLine l → act_of side l ≡ Some a → IsAct (act_data a)
act_in_range side (Word w) a fits is = let same : act.Word side w ≡ a = cc in subst (λ (x : Act). IsAct (act_data x)) same fits
act_in_range side (Value w) a fits is = let same : act.Value side w ≡ a = cc in subst (λ (x : Act). IsAct (act_data x)) same fits
act_in_range side (Contactor order) a fits is =
    let same : act.Contactor side order ≡ a = cc in subst (λ (x : Act). IsAct (act_data x)) same tt
act_in_range side Exchange a fits is = let same : act.Exchange side ≡ a = cc in subst (λ (x : Act). IsAct (act_data x)) same tt
act_in_range side Fail a fits is = let same : act.Fail side ≡ a = cc in subst (λ (x : Act). IsAct (act_data x)) same tt
act_in_range side Sample a fits is = let same : act.Sample side ≡ a = cc in subst (λ (x : Act). IsAct (act_data x)) same tt
act_in_range side Publish a fits is = let same : act.Publish side ≡ a = cc in subst (λ (x : Act). IsAct (act_data x)) same tt
act_in_range side Look a fits is = let same : act.Look side ≡ a = cc in subst (λ (x : Act). IsAct (act_data x)) same tt
act_in_range side Command a fits is = let same : act.Command side ≡ a = cc in subst (λ (x : Act). IsAct (act_data x)) same tt
act_in_range side _ a fits is = absurd cc

step_leads : (p : Place) (number : ℕ) (act : Option Act) → IsIn p → ((a : Act) → act ≡ Some a → IsAct (act_data a))
    → Leads IsIn (at_step p number act)
step_leads p number None is fits = tt
step_leads p number (Some act) is fits = (
  record {
    config = is.0.config;
    few = is.0.few;
    inputs = is.0.inputs;
    steps = all_more IsStep p.script.steps (record { line = number; act = act_data act }) is.0.steps (fits act refl);
  },
  is.1,
)

side_leads : (form : Form) (p : Place) (number : ℕ) (side : Side) (l : SideLine) → IsIn p → IsSideLine l
    → Leads IsIn (side_line_in form p number side l)
side_leads Replay p number side l is fits =
    either (Leads IsIn) (may_come p.standings p.faults side l) (More (record (waits p) { faults = faults_with p.faults side l }))
    (Refused BadLine) (is.0, with_fault (input_at p) side l is.1 fits) tt
side_leads Schedule p number side l is fits = step_leads p number (act_of side l) is (λ a e. act_in_range side l a fits e)
side_leads Simulate p number side l is fits =
    either (Leads IsIn) (may_come p.standings p.faults side l) (More (record (waits p) { faults = faults_with p.faults side l }))
    (Refused BadLine) (is.0, with_fault (input_at p) side l is.1 fits) tt

entry_leads : (p : Place) (number : ℕ) (text : List ℕ) (entry : Entry) → IsIn p → Spells text (line.Entry entry)
    → Leads IsIn (at_entry p number entry)
entry_leads p number text Blank is spells = is
entry_leads p number text (Frame f) is spells =
    either_by (Leads IsIn) (nat_lt (length p.frames) MOST_FRAMES) (More (record (waits p) {
      frames =
          p.frames ++ f ∷ [];
    })) (Refused TooManyFrames)
    (λ few. (is.0, with_frame (input_at p) f is.1 (under _ _ few) spells.1)) (λ many. tt)
entry_leads p number text (Wires a b) is spells =
    either (Leads IsIn) p.wires_given (Refused BadLine) (More (record (waits p) { words = record { a = a; b = b }; wires_given = true }))
    tt (is.0, with_words (input_at p) a b is.1 spells.1 spells.2)
entry_leads p number text (Truth j w) is spells =
    either (Leads IsIn) (get_or p.truth_given (j - 1) false) (Refused BadLine)
    (More (record (waits p) { truth = set p.truth (j - 1) w; truth_given = set p.truth_given (j - 1) true })) tt
    (is.0, with_truth (input_at p) (j - 1) w is.1 spells.3)
entry_leads p number text (OfSide side l) is spells = side_leads p.form p number side l is spells.1

ticks_in_range : (form : Form) (number n : ℕ) → AllByRecursion IsStep (tick_steps form number n)
ticks_in_range Replay number n = tt
ticks_in_range Schedule number n = all_same IsStep n (record { line = number; act = Tick }) tt
ticks_in_range Simulate number n = tt

ticks_lead : (p : Place) (number n : ℕ) → 1 ≤ n → IsIn p → Leads IsIn (at_tick p number n)
ticks_lead p number n some is =
    either_by (Leads IsIn) (nat_lt p.script.config.ticks (length p.script.inputs + n)) (Refused TooManyTicks) (More (ticked p number n))
    (λ many. tt)
    (λ few.
    let on = going_on (input_at p) is.1 in
    let room = not_under _ _ few in
    let grown = length-append p.script.inputs (input_at p ∷ replicate (n - 1) (input_on p)) in (
      record {
        config = is.0.config;
        few = omega (arith, room, grown, length-replicate (n - 1) (input_on p));
        inputs = all_both IsInput p.script.inputs (input_at p ∷ replicate (n - 1) (input_on p)) is.0.inputs
            (is.1, all_same IsInput (n - 1) (input_on p) on);
        steps = all_both IsStep p.script.steps (tick_steps p.form number n) is.0.steps (ticks_in_range p.form number n);
      },
      on,
    ))

-- ---- a script

start_is_in : (form : Form) (places : List Bool) (head : List ℕ) (c : Settings) → read_head head ≡ Ok c → IsIn (at_start form places c)
start_is_in form places head c read = (
  record { config = head_in_range head c read; few = omega arith; inputs = tt; steps = tt },
  record {
    few = omega arith;
    frames = tt;
    a = omega arith;
    b = omega arith;
    sources = refl;
    truth = all_same (λ x. x < 2 ^ 16) SOURCES 0 (omega arith);
    faults_a = no_fault_in_range;
    faults_b = no_fault_in_range;
  },
)

meant_is_ranged : (form : Form) (places : List Bool) (text : List ℕ) (s : ScriptData) → MeansScript form places text s → IsRanged s
meant_is_ranged form places text s means =
    let kept : IsKept form places IsIn = record {
      start = start_is_in form places;
      entry = λ p number line entry is e of_form. entry_leads p number line entry is (line_spells line _ e);
      ticks = λ p number line n is e. ticks_lead p number n (line_spells line _ e).1 is;
    } in
    let (p, is_in, is) = stands_behind form places IsIn kept text s means in
    subst IsRanged is is_in.0

pub meant_is_replay : (places : List Bool) (text : List ℕ) (s : ScriptData) → MeansScript Replay places text s → IsReplay places s
meant_is_replay places text s means =
    let is = meant_is_ranged Replay places text s means in
    record {
      config = is.config;
      few = is.few;
      inputs = is.inputs;
      faults = meant_may_follow places text s means;
      steps = meant_has Replay places text s means;
    }

-- ---- a schedule has no faults

abbrev IsCalmAt : Place → Type 0
IsCalmAt p = (p.form ≡ Schedule) × AllByRecursion (λ (i : InputData). i.faults ≡ no_faults) p.script.inputs × (p.faults ≡ no_faults)

calm_step : (p : Place) (number : ℕ) (act : Option Act) → IsCalmAt p → Leads IsCalmAt (at_step p number act)
calm_step p number None calm = tt
calm_step p number (Some act) calm = calm

calm_entry : (p : Place) (number : ℕ) (entry : Entry) → IsCalmAt p → Leads IsCalmAt (at_entry p number entry)
calm_entry p number Blank calm = calm
calm_entry p number (Frame f) calm =
    either (Leads IsCalmAt) (nat_lt (length p.frames) MOST_FRAMES) (More (record (waits p) {
      frames =
          p.frames ++ f ∷ [];
    })) (Refused TooManyFrames)
    calm tt
calm_entry p number (Wires a b) calm =
    either (Leads IsCalmAt) p.wires_given (Refused BadLine) (More (record
    (waits p) { words = record { a = a; b = b }; wires_given = true }))
    tt calm
calm_entry p number (Truth j w) calm =
    either (Leads IsCalmAt) (get_or p.truth_given (j - 1) false) (Refused BadLine)
    (More (record (waits p) { truth = set p.truth (j - 1) w; truth_given = set p.truth_given (j - 1) true })) tt calm
calm_entry p number (OfSide side l) calm =
    subst (λ (x : Form). Leads IsCalmAt (side_line_in x p number side l)) (sym calm.0) (calm_step p number (act_of side l) calm)

calm_ticks : (p : Place) (number n : ℕ) → IsCalmAt p → Leads IsCalmAt (at_tick p number n)
calm_ticks p number n calm =
    either (Leads IsCalmAt) (nat_lt p.script.config.ticks (length p.script.inputs + n)) (Refused TooManyTicks) (More
    (ticked p number n)) tt (
      calm.0,
      all_both (λ (i : InputData). i.faults ≡ no_faults) p.script.inputs (input_at p ∷ replicate (n - 1) (input_on p)) calm.1
          (calm.2, all_same (λ (i : InputData). i.faults ≡ no_faults) (n - 1) (input_on p) refl),
      refl,
    )

meant_is_calm : (places : List Bool) (text : List ℕ) (s : ScriptData) → MeansScript Schedule places text s
    → AllByRecursion (λ (i : InputData). i.faults ≡ no_faults) s.inputs
meant_is_calm places text s means =
    let kept : IsKept Schedule places IsCalmAt = record {
      start = λ head c is. (refl, tt, refl);
      entry = λ p number line entry calm is of_form. calm_entry p number entry calm;
      ticks = λ p number line n calm is. calm_ticks p number n calm;
    } in
    let (p, calm, is) = stands_behind Schedule places IsCalmAt kept text s means in
    subst (λ (x : ScriptData). AllByRecursion (λ (i : InputData). i.faults ≡ no_faults) x.inputs) is calm.1

pub meant_is_schedule : (places : List Bool) (text : List ℕ) (s : ScriptData) → MeansScript Schedule places text s → IsSchedule s
meant_is_schedule places text s means =
    let is = meant_is_ranged Schedule places text s means in
    record {
      config = is.config;
      few = is.few;
      inputs = is.inputs;
      calm = meant_is_calm places text s means;
      steps = is.steps;
    }
