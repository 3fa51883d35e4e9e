-- A text of Form Simulate beside the same text of Form Replay: either both are read alike, or the first is refused and the second has
-- frames or faults.
use Rattle.std.proofs.Common.{◌≡◌, ◌⊎◌, inl, inr, ◌+◌, ◌-◌, ◌++◌, ◌==◌, Bool, true, false, List, [], ◌∷◌, ℕ, length, refl, sym, ap, ◌∙◌, subst, codes, nat_lt, get_or, set, replicate, Option, Some, None, Ok, Err, Result}
use Rattle.std.specs.Prelude.{not, if◌then◌else◌}
use Rattle.std.specs.List.{AllByRecursion}
use Rattle.std.specs.Str.{bytes_eq}
use Rattle.std.proofs.lemmas.Bool.{false≢true}
use Rattle.lift_base.specs.declared.limits.TheConstants.{HEAD_TOO_LONG, LONGEST_LINE, MOST_FRAMES, MOST_LINES}
use Rattle.lift_base.specs.declared.Override.{Override}
use Rattle.lift_base.specs.declared.Override.TheVariants.{Keep}
use Rattle.lift_base.specs.declared.Side.{Side}
use Rattle.lift_base.specs.declared.Side.TheVariants.{A, B}
use Rattle.lift_base.specs.declared.forms.Form.{Form}
use Rattle.lift_base.specs.declared.forms.Form.TheVariants.{Replay, Schedule, Simulate}
use Rattle.lift_config.specs.declared.ConfigFault.{ConfigFault}
use Rattle.lift_config.specs.Head.{read_head}
use Rattle.lift_model.specs.Records.{Settings, FrameData, InputData, FaultData, SideFaultData}
use Rattle.round_model.specs.Turns.{is_keep}
use Rattle.script_model.specs.declared.Line.{Line}
use Rattle.script_model.specs.declared.Line.TheVariants as line
use Rattle.script_model.specs.declared.Entry.{Entry}
use Rattle.script_model.specs.declared.Entry.TheVariants.{Blank, Frame, Wires, Truth, OfSide}
use Rattle.script_model.specs.declared.refusals.LineRefusal.TheVariants.{BadLine, TooManyTicks, TooManyLines, TooManyFrames, LineTooLong}
use Rattle.script_model.specs.declared.refusals.Refusal.{Refusal}
use Rattle.script_model.specs.declared.refusals.Refusal.TheVariants.{HeadSize, NoEnd}
use Rattle.script_model.specs.declared.refusals.Refusal.TheVariants as refusal
use Rattle.script_model.specs.declared.sides.SideLine.{SideLine}
use Rattle.script_model.specs.declared.sides.Standing.{Standing}
use Rattle.script_model.specs.declared.sides.SideLine.TheVariants.{Exchange, Fail, Hold, Word, Value, Contactor, Give, Dismiss, Sample, Publish, Look, Command}
use Rattle.script_model.specs.Faults.{no_fault, no_faults, Standings, may_stand, may_come, with_line, faults_with}
use Rattle.script_model.specs.Judging.{ScriptData, Place, Judged, More, Done, Refused, at_start, at_frame, at_fault, at_entry, at_tick, at_end, is_simulation, of_form, side_line_in, tick_steps, ticked, waits, input_at, input_on, judged, judge_line}
use Rattle.script_model.specs.Lines.{line_of}
use Rattle.script_model.specs.Meaning.{Reading, InHead, InLine, Ended, Stopped, head_read, head_grows, head_line_ends, line_ends, line_grows, take_byte, take_bytes, reading, finished, last_line, Meaning, Script, No, meaning, outcome, MeansScript}
use Rattle.script_model.specs.Rules.{HasWordsAlone, IsSimulation}
use Rattle.script_model.specs.Valid.{IsSideLine}
use Rattle.script_model.proofs.Choices.{either, either_by}
use Rattle.script_model.proofs.Kept.{Leads, IsKept, judge_leads}
use Rattle.script_laws.proofs.LineForms.{Spells, line_spells}

-- ---- what no simulation leads to

abbrev HasMore : List InputData → Type 0
HasMore inputs = AllByRecursion HasWordsAlone inputs → ⊥

abbrev Waits : Place → Type 0
Waits p = (p.frames ≡ []) × (p.faults ≡ no_faults) → ⊥

-- a place with frames or faults, in a tick or since the last one
abbrev IsApart : Place → Type 0
IsApart p = HasMore p.script.inputs ⊎ ((p.waiting ≡ true) × Waits p)

abbrev LeadsApart : Place → Judged → Type 0
LeadsApart p (More p') = IsApart p'
LeadsApart p Done = HasMore p.script.inputs
LeadsApart p (Refused reason) = Unit {0}

abbrev ReadApart : Reading → Type 0
ReadApart (InHead form places head line number) = ⊥
ReadApart (InLine p number used line) = IsApart p
ReadApart (Ended script used) = HasMore script.inputs
ReadApart (Stopped refusal used) = Unit {0}

never_empty : {A : Type 0} (xs : List A) (x : A) → xs ++ x ∷ [] ≡ [] → ⊥
never_empty [] x is = cc
never_empty (y ∷ xs) x is = cc

parted : (xs ys : List InputData) → AllByRecursion HasWordsAlone (xs ++ ys)
    → AllByRecursion HasWordsAlone xs × AllByRecursion HasWordsAlone ys
parted [] ys all = (tt, all)
parted (x ∷ xs) ys all = let rest = parted xs ys all.1 in ((all.0, rest.0), rest.1)

-- each line of a side that may stand leaves its mark
is_not_keep : (order : Override) → is_keep order ≡ false → order ≡ Keep → ⊥
is_not_keep order told is = false≢true (sym told ∙ ap is_keep is)

line_marks : (left : List Bool) (other : Option ℕ) (s : Standing) (f : SideFaultData) (l : SideLine) → IsSideLine l
    → may_stand left other s f l ≡ true → with_line f l ≡ no_fault → ⊥
line_marks left other s f Exchange fits may is = let x = ap (λ (k : SideFaultData). k.exchange) is in cc
line_marks left other s f Fail fits may is = let x = ap (λ (k : SideFaultData). k.fail) is in cc
line_marks left other s f Hold fits may is = let x = ap (λ (k : SideFaultData). k.hold) is in cc
line_marks left other s f (Word w) fits may is = let x = ap (λ (k : SideFaultData). k.publish) is in cc
line_marks left other s f (Value w) fits may is = let x = ap (λ (k : SideFaultData). k.command) is in cc
line_marks left other s f (Contactor order) fits may is = is_not_keep order fits (ap (λ (k : SideFaultData). k.contactor) is)
line_marks left other s f (Give i) fits may is = let x = ap (λ (k : SideFaultData). k.give) is in cc
line_marks left other s f Dismiss fits may is = let x = ap (λ (k : SideFaultData). k.dismiss) is in cc
line_marks left other s f Sample fits may is = false≢true may
line_marks left other s f Publish fits may is = false≢true may
line_marks left other s f Look fits may is = false≢true may
line_marks left other s f Command fits may is = false≢true may

fault_marks : (s : Standings) (f : FaultData) (side : Side) (l : SideLine) → IsSideLine l → may_come s f side l ≡ true
    → faults_with f side l ≡ no_faults → ⊥
fault_marks s f A l fits may is = line_marks s.left f.b.give s.a f.a l fits may (ap (λ (k : FaultData). k.a) is)
fault_marks s f B l fits may is = line_marks s.left f.a.give s.b f.b l fits may (ap (λ (k : FaultData). k.b) is)

frame_apart : (p : Place) (f : FrameData) → LeadsApart p (of_form p (Frame f) (at_frame p f))
frame_apart p f =
    either (LeadsApart p) (not (is_simulation p.form)) (at_frame p f) (Refused BadLine)
    (either (LeadsApart p) (nat_lt (length p.frames) MOST_FRAMES) (More (record (waits p) {
      frames =
          p.frames ++ f ∷ [];
    })) (Refused TooManyFrames)
    (inr (refl, λ none. never_empty p.frames f none.0)) tt) tt

fault_apart : (p : Place) (side : Side) (l : SideLine) → IsSideLine l → LeadsApart p (at_fault p side l)
fault_apart p side l fits =
    either_by (LeadsApart p) (may_come p.standings p.faults side l) (More (record (waits p) { faults = faults_with p.faults side l }))
    (Refused BadLine) (λ may. inr (refl, λ none. fault_marks p.standings p.faults side l fits may none.1)) (λ may_not. tt)

side_apart : (p : Place) (number : ℕ) (side : Side) (l : SideLine) → p.form ≡ Replay → IsSideLine l
    → LeadsApart p (of_form p (OfSide side l) (at_entry p number (OfSide side l)))
side_apart p number side l form fits =
    either (LeadsApart p) (not (is_simulation p.form)) (at_entry p number (OfSide side l)) (Refused BadLine)
    (subst (λ (x : Form). LeadsApart p (side_line_in x p number side l)) (sym form) (fault_apart p side l fits)) tt

-- what is apart stays so
waits_apart : (p : Place) → IsApart p → HasMore p.script.inputs ⊎ ((true ≡ true) × Waits p)
waits_apart p (inl has) = inl has
waits_apart p (inr is) = inr (refl, is.1)

entry_apart : (p : Place) (number : ℕ) (entry : Entry) (text : List ℕ) → p.form ≡ Replay → Spells text (line.Entry entry) → IsApart p
    → LeadsApart p (of_form p entry (at_entry p number entry))
entry_apart p number Blank text form spells apart = apart
entry_apart p number (Frame f) text form spells apart = frame_apart p f
entry_apart p number (Wires a b) text form spells apart =
    either (LeadsApart p) p.wires_given (Refused BadLine) _ tt (waits_apart p apart)
entry_apart p number (Truth j w) text form spells apart =
    either (LeadsApart p) (get_or p.truth_given (j - 1) false) (Refused BadLine) _ tt (waits_apart p apart)
entry_apart p number (OfSide side l) text form spells apart = side_apart p number side l form spells.1

ticks_apart : (p : Place) (number n : ℕ) → IsApart p → HasMore (ticked p number n).script.inputs
ticks_apart p number n (inl has) = λ all. has (parted p.script.inputs (input_at p ∷ replicate (n - 1) (input_on p)) all).0
ticks_apart p number n (inr is) = λ all.
    let first = (parted p.script.inputs (input_at p ∷ replicate (n - 1) (input_on p)) all).1.0 in is.1 (first.frames, first.faults)

end_apart : (p : Place) → IsApart p → LeadsApart p (at_end p)
end_apart p (inl has) = either (LeadsApart p) p.waiting (Refused BadLine) Done tt has
end_apart p (inr is) = subst (λ (w : Bool). LeadsApart p (if w then Refused BadLine else Done)) (sym is.0) tt

line_apart : (p : Place) (number : ℕ) (text : List ℕ) (o : Option Line) → line_of text ≡ o → p.form ≡ Replay → IsApart p
    → LeadsApart p (judged p number o)
line_apart p number text None is form apart = either (LeadsApart p) (nat_lt p.others MOST_LINES) (Refused BadLine)
    (Refused TooManyLines) tt tt
line_apart p number text (Some (line.Entry entry)) is form apart =
    either (LeadsApart p) (nat_lt p.others MOST_LINES) (of_form p entry (at_entry p number entry)) (Refused TooManyLines)
    (entry_apart p number entry text form (line_spells text (line.Entry entry) is) apart) tt
line_apart p number text (Some (line.Tick n)) is form apart =
    either (LeadsApart p) (nat_lt p.script.config.ticks (length p.script.inputs + n)) (Refused TooManyTicks) (More (ticked p number n)) tt
    (inl (ticks_apart p number n apart))
line_apart p number text (Some line.End) is form apart = end_apart p apart

-- ---- a line of both

abbrev simulated : Place → Place
simulated p = record p { form = Simulate }

abbrev simulated_judged : Judged → Judged
simulated_judged (More p) = More (simulated p)
simulated_judged Done = Done
simulated_judged (Refused reason) = Refused reason

abbrev IsNo : Judged → Type 0
IsNo (More p) = ⊥
IsNo Done = ⊥
IsNo (Refused reason) = Unit {0}

-- they do the same, or the simulation is refused and the replay is apart
abbrev Both : Place → Judged → Judged → Type 0
Both p j j' = (j ≡ simulated_judged j') ⊎ (IsNo j × LeadsApart p j')

both_ways : {A : Type 0} (R : A → A → Type 0) (t : Bool) (x y x' y' : A) → R x x' → R y y'
    → R (if t then x else y) (if t then x' else y')
both_ways R true x y x' y' if_so if_not = if_so
both_ways R false x y x' y' if_so if_not = if_not

entry_both : (p : Place) (number : ℕ) (entry : Entry) (text : List ℕ) → p.form ≡ Replay → Spells text (line.Entry entry)
    → Both p (of_form (simulated p) entry (at_entry (simulated p) number entry)) (of_form p entry (at_entry p number entry))
entry_both p number Blank text form spells = inl refl
entry_both p number (Frame f) text form spells = inr (tt, frame_apart p f)
entry_both p number (Wires a b) text form spells =
    both_ways (Both p) p.wires_given (Refused BadLine) _ (Refused BadLine) _ (inl refl) (inl refl)
entry_both p number (Truth j w) text form spells =
    both_ways (Both p) (get_or p.truth_given (j - 1) false) (Refused BadLine) _ (Refused BadLine) _ (inl refl) (inl refl)
entry_both p number (OfSide side l) text form spells = inr (tt, side_apart p number side l form spells.1)

no_steps : (form : Form) (number n : ℕ) → form ≡ Replay → [] ≡ tick_steps form number n
no_steps Replay number n is = refl
no_steps Schedule number n is = absurd cc
no_steps Simulate number n is = absurd cc

ticks_both : (p : Place) (number n : ℕ) → p.form ≡ Replay → ticked (simulated p) number n ≡ simulated (ticked p number n)
ticks_both p number n form = ap (λ steps. record (simulated (ticked p number n)) {
  script = record (ticked p number n).script { steps = p.script.steps ++ steps };
}) (no_steps p.form number n form)

line_both : (p : Place) (number : ℕ) (text : List ℕ) (o : Option Line) → line_of text ≡ o → p.form ≡ Replay
    → Both p (judged (simulated p) number o) (judged p number o)
line_both p number text None is form = inl (both_ways (λ x y. x ≡ simulated_judged y) (nat_lt p.others MOST_LINES) (Refused BadLine)
    (Refused TooManyLines) _ _ refl refl)
line_both p number text (Some (line.Entry entry)) is form =
    both_ways (Both p) (nat_lt p.others MOST_LINES) _ (Refused TooManyLines) _ (Refused TooManyLines)
    (entry_both p number entry text form (line_spells text (line.Entry entry) is)) (inl refl)
line_both p number text (Some (line.Tick n)) is form =
    both_ways (Both p) (nat_lt p.script.config.ticks (length p.script.inputs + n)) (Refused TooManyTicks) _ (Refused TooManyTicks) _
    (inl refl)
    (inl (ap More (ticks_both p number n form)))
line_both p number text (Some line.End) is form =
    both_ways (Both p) p.waiting (Refused BadLine) Done (Refused BadLine) Done (inl refl) (inl refl)

judge_both : (p : Place) (number : ℕ) (text : List ℕ) → p.form ≡ Replay
    → Both p (judge_line (simulated p) number text) (judge_line p number text)
unfolding judge_line
judge_both p number text form = line_both p number text (line_of text) refl form

judge_apart : (p : Place) (number : ℕ) (text : List ℕ) → p.form ≡ Replay → IsApart p → LeadsApart p (judge_line p number text)
unfolding judge_line
judge_apart p number text form apart = line_apart p number text (line_of text) refl form apart

-- ---- a byte of both

abbrev IsReplay : Place → Type 0
IsReplay p = p.form ≡ Replay

replay_leads : (p : Place) (number : ℕ) (entry : Entry) → IsReplay p → Leads IsReplay (at_entry p number entry)
replay_leads p number Blank is = is
replay_leads p number (Frame f) is =
    either (Leads IsReplay) (nat_lt (length p.frames) MOST_FRAMES) (More (record (waits p) {
      frames =
          p.frames ++ f ∷ [];
    })) (Refused TooManyFrames)
    is tt
replay_leads p number (Wires a b) is = either (Leads IsReplay) p.wires_given (Refused BadLine) _ tt is
replay_leads p number (Truth j w) is = either (Leads IsReplay) (get_or p.truth_given (j - 1) false) (Refused BadLine) _ tt is
replay_leads p number (OfSide side l) is =
    subst (λ (x : Form). Leads IsReplay (side_line_in x p number side l)) (sym is)
    (either (Leads IsReplay) (may_come p.standings p.faults side l) (More (record (waits p) { faults = faults_with p.faults side l }))
    (Refused BadLine) is tt)

kept : (places : List Bool) → IsKept Replay places IsReplay
kept places = record {
  start = λ head c is. refl;
  entry = λ p number text entry is e of_form. replay_leads p number entry is;
  ticks = λ p number text n is e. either (Leads IsReplay) (nat_lt p.script.config.ticks (length p.script.inputs + n)) (Refused TooManyTicks)
      (More (ticked p number n)) tt is;
}

abbrev InReplay : Reading → Type 0
InReplay (InHead form places head line number) = form ≡ Replay
InReplay (InLine p number used line) = IsReplay p
InReplay (Ended script used) = Unit {0}
InReplay (Stopped refusal used) = Unit {0}

abbrev simulated_reading : Reading → Reading
simulated_reading (InHead form places head line number) = InHead Simulate places head line number
simulated_reading (InLine p number used line) = InLine (simulated p) number used line
simulated_reading (Ended script used) = Ended script used
simulated_reading (Stopped refusal used) = Stopped refusal used

abbrev IsStopped : Reading → Type 0
IsStopped (InHead form places head line number) = ⊥
IsStopped (InLine p number used line) = ⊥
IsStopped (Ended script used) = ⊥
IsStopped (Stopped refusal used) = Unit {0}

-- a text of Form Simulate beside it as one of Form Replay
abbrev Beside : Reading → Reading → Type 0
Beside r r' = InReplay r' × ((r ≡ simulated_reading r') ⊎ (IsStopped r × ReadApart r'))

alike : (r' : Reading) → InReplay r' → Beside (simulated_reading r') r'
alike r' is = (is, inl refl)

ends_beside : (p : Place) (j j' : Judged) (number used : ℕ) → Leads IsReplay j' → Both p j j'
    → Beside (line_ends (simulated p) j number used) (line_ends p j' number used)
ends_beside p j (More p') number used is (inl same) =
    subst (λ x. Beside (line_ends (simulated p) x number used) (InLine p' (number + 1) used [])) (sym same) (is, inl refl)
ends_beside p j Done number used is (inl same) =
    subst (λ x. Beside (line_ends (simulated p) x number used) (Ended p.script used)) (sym same) (tt, inl refl)
ends_beside p j (Refused reason) number used is (inl same) =
    subst (λ x. Beside (line_ends (simulated p) x number used) (Stopped (refusal.Line number reason) used)) (sym same) (tt, inl refl)
ends_beside p (More q) j' number used is (inr apart) = absurd apart.0
ends_beside p Done j' number used is (inr apart) = absurd apart.0
ends_beside p (Refused q) (More p') number used is (inr apart) = (is, inr (tt, apart.1))
ends_beside p (Refused q) Done number used is (inr apart) = (tt, inr (tt, apart.1))
ends_beside p (Refused q) (Refused reason) number used is (inr apart) = (tt, inr (tt, tt))

head_beside : (form : Form) (places : List Bool) (config : Result Settings ConfigFault) (number used : ℕ) → form ≡ Replay
    → Beside (head_read Simulate places config number used) (head_read form places config number used)
head_beside form places (Ok config) number used is = (is, inl refl)
head_beside form places (Err fault) number used is = (tt, inl refl)

grows_beside : (form : Form) (places : List Bool) (head line : List ℕ) (number : ℕ) → form ≡ Replay
    → Beside (head_grows Simulate places head line number) (head_grows form places head line number)
grows_beside form places head line number is =
    both_ways Beside (nat_lt (length head + length line) HEAD_TOO_LONG) (InHead Simulate places head line number)
    (Stopped HeadSize (length head + length line)) (InHead form places head line number) (Stopped HeadSize (length head + length line))
    (is, inl refl) (tt, inl refl)

same_beside : (r' : Reading) (b : ℕ) → InReplay r' → Beside (take_byte (simulated_reading r') b) (take_byte r' b)
same_beside (InHead form places head line number) b is =
    both_ways Beside (b == 10) (head_line_ends Simulate places head line number) (head_grows Simulate places head (line ++ b ∷ []) number)
    (head_line_ends form places head line number) (head_grows form places head (line ++ b ∷ []) number)
    (both_ways Beside (bytes_eq line (codes "%%")) (head_read Simulate places (read_head head) (number + 1) (length head + length line + 1))
    (head_grows Simulate places (head ++ (line ++ 10 ∷ [])) [] (number + 1))
    (head_read form places (read_head head) (number + 1) (length head + length line + 1))
    (head_grows form places (head ++ (line ++ 10 ∷ [])) [] (number + 1))
    (head_beside form places (read_head head) (number + 1) (length head + length line + 1) is)
    (grows_beside form places (head ++ (line ++ 10 ∷ [])) [] (number + 1) is))
    (grows_beside form places head (line ++ b ∷ []) number is)
same_beside (InLine p number used line) b is =
    both_ways Beside (b == 10) (line_ends (simulated p) (judge_line (simulated p) number line) number (used + 1))
    (line_grows (simulated p) number used line b) (line_ends p (judge_line p number line) number (used + 1))
    (line_grows p number used line b)
    (ends_beside p (judge_line (simulated p) number line) (judge_line p number line) number (used + 1)
    (judge_leads Replay [] IsReplay (kept []) p number line is) (judge_both p number line is))
    (both_ways Beside (nat_lt (length line) LONGEST_LINE) (InLine (simulated p) number (used + 1) (line ++ b ∷ []))
    (Stopped (refusal.Line number LineTooLong) (used + 1)) (InLine p number (used + 1) (line ++ b ∷ []))
    (Stopped (refusal.Line number LineTooLong) (used + 1)) (is, inl refl) (tt, inl refl))
same_beside (Ended script used) b is = (tt, inl refl)
same_beside (Stopped refusal used) b is = (tt, inl refl)

still_stopped : (r : Reading) (b : ℕ) → IsStopped r → IsStopped (take_byte r b)
still_stopped (InHead form places head line number) b is = absurd is
still_stopped (InLine p number used line) b is = absurd is
still_stopped (Ended script used) b is = absurd is
still_stopped (Stopped refusal used) b is = tt

abbrev StaysApart : Reading → Type 0
StaysApart r = InReplay r × ReadApart r

ends_apart : (p : Place) (j : Judged) (number used : ℕ) → Leads IsReplay j → LeadsApart p j → StaysApart (line_ends p j number used)
ends_apart p (More p') number used is apart = (is, apart)
ends_apart p Done number used is apart = (tt, apart)
ends_apart p (Refused reason) number used is apart = (tt, tt)

still_apart : (r : Reading) (b : ℕ) → InReplay r → ReadApart r → StaysApart (take_byte r b)
still_apart (InHead form places head line number) b is apart = absurd apart
still_apart (InLine p number used line) b is apart =
    either StaysApart (b == 10) (line_ends p (judge_line p number line) number (used + 1)) (line_grows p number used line b)
    (ends_apart p (judge_line p number line) number (used + 1) (judge_leads Replay [] IsReplay (kept []) p number line is)
    (judge_apart p number line is apart))
    (either StaysApart (nat_lt (length line) LONGEST_LINE) (InLine p number (used + 1) (line ++ b ∷ []))
    (Stopped (refusal.Line number LineTooLong) (used + 1)) (is, apart) (tt, tt))
still_apart (Ended script used) b is apart = (tt, apart)
still_apart (Stopped refusal used) b is apart = (tt, tt)

byte_beside : (r r' : Reading) (b : ℕ) → Beside r r' → Beside (take_byte r b) (take_byte r' b)
byte_beside r r' b (is, inl same) = subst (λ x. Beside (take_byte x b) (take_byte r' b)) (sym same) (same_beside r' b is)
byte_beside r r' b (is, inr apart) =
    let still = still_apart r' b is apart.1 in (still.0, inr (still_stopped r b apart.0, still.1))

bytes_beside : (r r' : Reading) (text : List ℕ) → Beside r r' → Beside (take_bytes r text) (take_bytes r' text)
bytes_beside r r' [] beside = beside
bytes_beside r r' (b ∷ text) beside = bytes_beside (take_byte r b) (take_byte r' b) text (byte_beside r r' b beside)

-- ---- the meaning of both

-- the first has no other script than the second
abbrev Forth : ScriptData → Meaning → Meaning → Type 0
Forth s m m' = outcome m ≡ Ok s → outcome m' ≡ Ok s

last_forth : (p : Place) (j j' : Judged) (number used : ℕ) (s : ScriptData) → Both p j j'
    → Forth s (last_line (simulated p) j number used) (last_line p j' number used)
last_forth p (More q) j' number used s both e = absurd cc
last_forth p (Refused q) j' number used s both e = absurd cc
last_forth p Done Done number used s both e = e
last_forth p Done (More q) number used s (inl same) e = absurd cc
last_forth p Done (Refused q) number used s (inl same) e = absurd cc
last_forth p Done j' number used s (inr apart) e = absurd apart.0

last_back : (p : Place) (j j' : Judged) (number used : ℕ) (s : ScriptData) → IsSimulation s → Both p j j'
    → Forth s (last_line p j' number used) (last_line (simulated p) j number used)
last_back p j (More q) number used s is both e = absurd cc
last_back p j (Refused q) number used s is both e = absurd cc
last_back p Done Done number used s is both e = e
last_back p (More q) Done number used s is (inl same) e = absurd cc
last_back p (Refused q) Done number used s is (inl same) e = absurd cc
last_back p j Done number used s is (inr apart) e =
    let same : p.script ≡ s = cc in
    absurd (apart.1 (subst (λ (x : ScriptData). AllByRecursion HasWordsAlone x.inputs) (sym same) is.inputs))

forth : (r r' : Reading) (s : ScriptData) → Beside r r' → Forth s (finished r) (finished r')
forth r r' s (is, inl same) e = subst (λ x. Forth s (finished x) (finished r')) (sym same) (like r' is) e where
  like : (x : Reading) → InReplay x → Forth s (finished (simulated_reading x)) (finished x)
  like (InHead form places head line number) is e = absurd cc
  like (InLine p number used line) is e =
      both_ways (Forth s) (bytes_eq line (codes "e")) (last_line (simulated p) (judge_line (simulated p) number line) number used)
      (No NoEnd used) (last_line p (judge_line p number line) number used) (No NoEnd used)
      (last_forth p (judge_line (simulated p) number line) (judge_line p number line) number used s (judge_both p number line is))
      (λ x. x) e
  like (Ended script used) is e = e
  like (Stopped refusal used) is e = e
forth (Stopped refusal used) r' s (is, inr apart) e = absurd cc
forth r r' s (is, inr apart) e = absurd apart.0

back : (r r' : Reading) (s : ScriptData) → IsSimulation s → Beside r r' → Forth s (finished r') (finished r)
back r r' s bare (is, inl same) e = subst (λ x. Forth s (finished r') (finished x)) (sym same) (like r' is) e where
  like : (x : Reading) → InReplay x → Forth s (finished x) (finished (simulated_reading x))
  like (InHead form places head line number) is e = absurd cc
  like (InLine p number used line) is e =
      both_ways (Forth s) (bytes_eq line (codes "e")) (last_line p (judge_line p number line) number used) (No NoEnd used)
      (last_line (simulated p) (judge_line (simulated p) number line) number used) (No NoEnd used)
      (last_back p (judge_line (simulated p) number line) (judge_line p number line) number used s bare (judge_both p number line is))
      (λ x. x) e
  like (Ended script used) is e = e
  like (Stopped refusal used) is e = e
back r (InHead form places head line number) s bare (is, inr apart) e = absurd cc
back r (InLine p number used line) s bare (is, inr apart) e =
    absurd (either NoScript (bytes_eq line (codes "e")) (last_line p (judge_line p number line) number used) (No NoEnd used)
    (none (judge_line p number line) (judge_apart p number line is apart.1)) (λ e. cc) e) where
      NoScript : Meaning → Type 0
      NoScript m = outcome m ≡ Ok s → ⊥

      none : (j : Judged) → LeadsApart p j → NoScript (last_line p j number used)
      none (More q) has e = cc
      none Done has e =
          let same : p.script ≡ s = cc in has (subst (λ (x : ScriptData). AllByRecursion HasWordsAlone x.inputs) (sym same) bare.inputs)
      none (Refused reason) has e = cc
back r (Ended script used) s bare (is, inr apart) e =
    let same : script ≡ s = cc in
    absurd (apart.1 (subst (λ (x : ScriptData). AllByRecursion HasWordsAlone x.inputs) (sym same) bare.inputs))
back r (Stopped refusal used) s bare (is, inr apart) e = absurd cc

read_beside : (places : List Bool) (text : List ℕ) → Beside (reading Simulate places text) (reading Replay places text)
read_beside places text = bytes_beside (InHead Simulate places [] [] 1) (InHead Replay places [] [] 1) text (refl, inl refl)

pub is_replay : (places : List Bool) (text : List ℕ) (s : ScriptData) → MeansScript Simulate places text s
    → MeansScript Replay places text s
is_replay places text s means = forth (reading Simulate places text) (reading Replay places text) s (read_beside places text) means

pub is_simulation_too : (places : List Bool) (text : List ℕ) (s : ScriptData) → MeansScript Replay places text s → IsSimulation s
    → MeansScript Simulate places text s
is_simulation_too places text s means is =
    back (reading Simulate places text) (reading Replay places text) s is (read_beside places text) means
