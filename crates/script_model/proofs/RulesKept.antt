-- Each tick of a replay keeps the rules that are asked of a script.
use Rattle.std.proofs.Common.{◌≡◌, ◌≢◌, ◌+◌, ◌-◌, ◌++◌, ◌==◌, Bool, true, false, List, [], ◌∷◌, ℕ, zero, suc, refl, sym, ap, ◌∙◌, subst, arith, inl, inr, nat_lt, append_assoc, append-nil, length, get_or, set, replicate, if◌then◌else◌, Option, None, Some}
use Rattle.std.specs.Prelude.{◌||◌, ◌&&◌, not}
use Rattle.std.proofs.lemmas.Bool.{cases_Bool, false≢true}
use Rattle.std.proofs.lemmas.Grind.{common_steps}
use Rattle.std.proofs.lemmas.List.{get_or-set_other}
use Rattle.lift_base.specs.declared.limits.TheConstants.{MOST_FRAMES}
use Rattle.core_model.specs.Schedule.{StepData}
use Rattle.lift_base.specs.declared.Side.TheVariants.{A, B}
use Rattle.lift_base.specs.declared.forms.Form.{Form}
use Rattle.lift_base.specs.declared.forms.Form.TheVariants.{Replay, Schedule, Simulate}
use Rattle.lift_model.specs.Records.{Settings, InputData, FaultData, SideFaultData}
use Rattle.round_model.proofs.LegalLemmas.{has_failed-push}
use Rattle.round_model.proofs.OnceLemmas.{given-push, fails_once-push, gives_once-push, fails_once-none, gives_once-none}
use Rattle.round_model.specs.Giving.{is_place, gives, is_given, GivesOnceIn}
use Rattle.round_model.specs.Parts.{has_failed, FailsOnceBy, FailsOnceIn}
use Rattle.script_model.specs.declared.Entry.TheVariants.{Blank, Frame, Wires, Truth, OfSide}
use Rattle.script_model.specs.declared.Entry.{Entry}
use Rattle.script_model.specs.declared.refusals.LineRefusal.TheVariants.{BadLine, TooManyTicks, TooManyFrames}
use Rattle.script_model.specs.declared.sides.Standing.{Standing}
use Rattle.script_model.specs.Faults.{no_faults, Standings, all_stand, may_come, faults_with, left_by, standings_after}
use Rattle.script_model.specs.Judging.{ScriptData, Place, More, Refused, at_start, at_entry, at_tick, side_line_in, tick_steps, ticked, waits, input_at, input_on}
use Rattle.script_model.specs.Meaning.{MeansScript}
use Rattle.script_model.specs.Rules.{KeepsRules}
use Rattle.script_model.specs.Valid.{MayHave, MayHaveBoth, MayFollow}
use Rattle.script_model.proofs.Choices.{either, either_by}
use Rattle.script_model.proofs.FaultsKept.{nothing_yet, line_keeps, gift_left}
use Rattle.script_model.proofs.Kept.{Leads, IsKept, stands_behind}

-- ---- a tick

same : (a b : ℕ) → (a == b) ≡ true → a ≡ b
same a b is = grind (arith, common_steps)

-- how the sides stand behind these ticks
abbrev pub all_after : Standings → List InputData → Standings
all_after s [] = s
all_after s (i ∷ inputs) = all_after (standings_after s i.faults) inputs

-- what the ticks so far have led to
record Ruled (places : List Bool) (inputs : List InputData) (s : Standings) : Type 0 where
  fails : FailsOnceIn inputs
  gives : GivesOnceIn inputs
  held : (i : ℕ) → is_given i inputs ≡ true → get_or places i false ≡ true
  a : s.a.failed ≡ has_failed A inputs
  b : s.b.failed ≡ has_failed B inputs
  left : (i : ℕ) → get_or s.left i false ≡ true → (get_or places i false ≡ true) × (is_given i inputs ≡ false)
  follow : MayFollow (all_stand places) inputs
  behind : s ≡ all_after (all_stand places) inputs

failed_too : (exchange fail failed was : Bool) → failed ≡ was
    → (if exchange then false else if fail then true else failed) ≡ (not exchange && (was || fail))
failed_too true fail failed was e = refl
failed_too false true failed true e = refl
failed_too false true failed false e = refl
failed_too false false failed true e = e
failed_too false false failed false e = e

once_by : (s : Standing) (f : SideFaultData) (was : Bool) → s.failed ≡ was → MayHave s f → FailsOnceBy was f
once_by s f was same k = record {
  fails = λ h. sym same ∙ (k.fails h).0;
  exchanged = λ h. sym same ∙ (k.exchange h).0;
  alone = λ h. ap (λ (x : SideFaultData). x.fail) (k.exchange h).1;
}

none_left : (left : List Bool) (i : ℕ) → get_or (set left i false) i false ≡ false
none_left [] i = refl
none_left (x ∷ left) zero = refl
none_left (x ∷ left) (suc i) = none_left left i

-- a place that is left behind a gift was left before, and is not the one that was given
left_still : (left : List Bool) (gift : Option ℕ) (i : ℕ) → get_or (left_by left gift) i false ≡ true
    → (get_or left i false ≡ true) × (is_place i gift ≡ false)
left_still left None i is = (is, refl)
left_still left (Some k) i is = elim (cases_Bool (i == k)) [
  | inl at ↦ absurd (false≢true (sym (none_left left k) ∙ subst (λ (x : ℕ). get_or (set left k false) x false ≡ true) (same i k at) is))
  | inr is_not ↦
      let apart : i ≢ k = λ e. grind (arith, common_steps) in
      (sym (get_or-set_other left k i false false apart) ∙ is, is_not)
]

none_of : (a b c : Bool) → a ≡ false → b ≡ false → c ≡ false → (a || (b || c)) ≡ false
none_of a b c x y z = rw (x, y, z) refl

some_of : {P : Type 0} (a b c : Bool) → (a || (b || c)) ≡ true → (a ≡ true → P) → (b ≡ true → P) → (c ≡ true → P) → P
some_of true b c is x y z = x refl
some_of false true c is x y z = y refl
some_of false false true is x y z = z refl
some_of false false false is x y z = absurd (false≢true is)

follow_more : (s : Standings) (inputs : List InputData) (x : InputData) → MayFollow s inputs → MayHaveBoth (all_after s inputs) x.faults
    → MayFollow s (inputs ++ x ∷ [])
follow_more s [] x each is = (is, tt)
follow_more s (i ∷ inputs) x each is = (each.0, follow_more (standings_after s i.faults) inputs x each.1 is)

after_more : (s : Standings) (inputs : List InputData) (x : InputData)
    → all_after s (inputs ++ x ∷ []) ≡ standings_after (all_after s inputs) x.faults
after_more s [] x = refl
after_more s (i ∷ inputs) x = after_more (standings_after s i.faults) inputs x

one_more : (places : List Bool) (inputs : List InputData) (s : Standings) (x : InputData) → Ruled places inputs s → MayHaveBoth s x.faults
    → Ruled places (inputs ++ x ∷ []) (standings_after s x.faults)
one_more places inputs s x r k = record {
  fails = fails_once-push inputs x r.fails (elim [
    | A ↦ once_by s.a x.faults.a (has_failed A inputs) r.a k.a
    | B ↦ once_by s.b x.faults.b (has_failed B inputs) r.b k.b
  ]);
  gives = gives_once-push inputs x r.gives (record {
    a = λ i g. (r.left i (gift_left s.left x.faults.a.give x.faults.b.give i k.left_a g).0).1;
    b = λ i g. let is = gift_left s.left x.faults.b.give x.faults.a.give i k.left_b g in ((r.left i is.0).1, is.1);
  });
  held = λ i g. some_of (is_given i inputs) (gives i x.faults.a) (gives i x.faults.b) (sym (given-push i inputs x) ∙ g)
      (r.held i) (λ h. (r.left i (gift_left s.left x.faults.a.give x.faults.b.give i k.left_a h).0).0)
      (λ h. (r.left i (gift_left s.left x.faults.b.give x.faults.a.give i k.left_b h).0).0);
  a = failed_too x.faults.a.exchange x.faults.a.fail s.a.failed (has_failed A inputs) r.a
      ∙ sym (has_failed-push A false inputs x);
  b = failed_too x.faults.b.exchange x.faults.b.fail s.b.failed (has_failed B inputs) r.b
      ∙ sym (has_failed-push B false inputs x);
  left = λ i g.
      let second = left_still (left_by s.left x.faults.a.give) x.faults.b.give i g in
      let first = left_still s.left x.faults.a.give i second.0 in
      let before = r.left i first.0 in
      (before.0, given-push i inputs x ∙ none_of _ _ _ before.1 first.1 second.1);
  follow = follow_more (all_stand places) inputs x r.follow (subst (λ t. MayHaveBoth t x.faults) r.behind k);
  behind = ap (λ t. standings_after t x.faults) r.behind ∙ sym (after_more (all_stand places) inputs x);
}

-- ticks without faults
goes_on : (places : List Bool) (inputs : List InputData) (s : Standings) (x : InputData) (n : ℕ) → x.faults ≡ no_faults
    → Ruled places inputs s → Ruled places (inputs ++ replicate n x) s
goes_on places inputs s x zero calm r = subst (λ xs. Ruled places xs s) (sym (append-nil inputs)) r
goes_on places inputs s x (suc n) calm r =
    let one = one_more places inputs s x r (subst (MayHaveBoth s) (sym calm) (nothing_yet s)) in
    let same = subst (λ (f : FaultData). Ruled places (inputs ++ x ∷ []) (standings_after s f)) calm one in
    subst (λ xs. Ruled places xs s) (append_assoc inputs (x ∷ []) (replicate n x)) (goes_on places (inputs ++ x ∷ []) s x n calm same)

-- ---- a script

abbrev Keeps : List Bool → Place → Type 0
Keeps places p = (p.form ≡ Replay) × (p.script.steps ≡ []) × Ruled places p.script.inputs p.standings × MayHaveBoth p.standings p.faults

entry_leads : (places : List Bool) (p : Place) (number : ℕ) (entry : Entry) → Keeps places p
    → Leads (Keeps places) (at_entry p number entry)
entry_leads places p number Blank keeps = keeps
entry_leads places p number (Frame f) keeps = either (Leads (Keeps places)) (nat_lt (length p.frames) MOST_FRAMES) _
    (Refused TooManyFrames) keeps tt
entry_leads places p number (Wires a b) keeps = either (Leads (Keeps places)) p.wires_given (Refused BadLine) _ tt keeps
entry_leads places p number (Truth j w) keeps =
    either (Leads (Keeps places)) (get_or p.truth_given (j - 1) false) (Refused BadLine) _ tt keeps
entry_leads places p number (OfSide side l) keeps =
    subst (λ (x : Form). Leads (Keeps places) (side_line_in x p number side l)) (sym keeps.0)
    (either_by (Leads (Keeps places)) (may_come p.standings p.faults side l)
    (More (record (waits p) { faults = faults_with p.faults side l })) (Refused BadLine)
    (λ may. (keeps.0, keeps.1, keeps.2, line_keeps p.standings p.faults side l may keeps.3)) (λ may_not. tt))

no_steps : (form : Form) (number n : ℕ) (steps : List StepData) → form ≡ Replay → steps ≡ [] → steps ++ tick_steps form number n ≡ []
no_steps Replay number n steps is none = append-nil steps ∙ none
no_steps Schedule number n steps is none = absurd cc
no_steps Simulate number n steps is none = absurd cc

ticks_lead : (places : List Bool) (p : Place) (number n : ℕ) → Keeps places p → Leads (Keeps places) (at_tick p number n)
ticks_lead places p number n keeps =
    let first = one_more places p.script.inputs p.standings (input_at p) keeps.2 keeps.3 in
    let s = standings_after p.standings p.faults in
    let all = goes_on places (p.script.inputs ++ input_at p ∷ []) s (input_on p) (n - 1) refl first in
    let more = append_assoc p.script.inputs (input_at p ∷ []) (replicate (n - 1) (input_on p)) in
    either (Leads (Keeps places)) (nat_lt p.script.config.ticks (length p.script.inputs + n)) (Refused TooManyTicks) (More
    (ticked p number n)) tt
    (keeps.0, no_steps p.form number n p.script.steps keeps.0 keeps.1, subst (λ xs. Ruled places xs s) more all, nothing_yet s)

start_keeps : (places : List Bool) (head : List ℕ) (c : Settings) → Keeps places (at_start Replay places c)
start_keeps places head c = (
  refl,
  refl,
  record {
    fails = fails_once-none;
    gives = gives_once-none;
    held = λ i g. absurd (false≢true g);
    a = refl;
    b = refl;
    left = λ i g. (g, refl);
    follow = tt;
    behind = refl;
  },
  nothing_yet (all_stand places),
)

kept : (places : List Bool) → IsKept Replay places (Keeps places)
kept places = record {
  start = λ head c is. start_keeps places head c;
  entry = λ p number text entry has is of_form. entry_leads places p number entry has;
  ticks = λ p number text n has is. ticks_lead places p number n has;
}

-- a script that was read keeps the rules
pub meant_keeps_rules : (places : List Bool) (text : List ℕ) (s : ScriptData) → MeansScript Replay places text s → KeepsRules places s
meant_keeps_rules places text s means =
    let (p, keeps, is) = stands_behind Replay places (Keeps places) (kept places) text s means in
    subst (KeepsRules places) is
    (record { steps = keeps.1; fails = keeps.2.fails; gives = keeps.2.gives; held = keeps.2.held })

-- and each of its ticks may have its faults
pub meant_may_follow : (places : List Bool) (text : List ℕ) (s : ScriptData) → MeansScript Replay places text s
    → MayFollow (all_stand places) s.inputs
meant_may_follow places text s means =
    let (p, keeps, is) = stands_behind Replay places (Keeps places) (kept places) text s means in
    subst (λ (x : ScriptData). MayFollow (all_stand places) x.inputs) is keeps.2.follow
