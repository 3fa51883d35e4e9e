-- Reading behind the head, line by line: each line of a text that has a script is an entry, a tick line or the end.
use Rattle.std.proofs.Common.{◌≡◌, inl, inr, ◌<◌, ◌≤◌, ◌+◌, ◌-◌, ◌++◌, ◌==◌, List, [], ◌∷◌, ℕ, length, refl, sym, ap, ◌∙◌, subst, arith, true, false, Bool, if◌then◌else◌, codes, append_assoc, rules, nat_lt, length-append, get_or, set, replicate, Option, Some, None, Ok, Err, Result}
use Rattle.std.specs.List.{flat_map}
use Rattle.std.specs.Str.{bytes_eq}
use Rattle.std.proofs.lemmas.Bool.{cases_Bool}
use Rattle.std.proofs.lemmas.Grind.{common_steps}
use Rattle.lift_base.specs.declared.limits.TheConstants.{LONGEST_LINE, MOST_LINES, MOST_TICKS}
use Rattle.lift_base.specs.declared.TheConstants.{SOURCES}
use Rattle.lift_base.specs.declared.forms.Form.TheVariants.{Replay}
use Rattle.lift_base.specs.declared.Side.{Side}
use Rattle.lift_model.specs.Records.{FrameData, WireWords, Settings, InputData, FaultData}
use Rattle.script_model.specs.declared.Line.{Line}
use Rattle.script_model.specs.declared.Line.TheVariants as line
use Rattle.script_model.specs.declared.Entry.TheVariants.{Blank, Frame, Wires, Truth, OfSide}
use Rattle.script_model.specs.declared.refusals.LineRefusal.{LineRefusal}
use Rattle.script_model.specs.declared.refusals.LineRefusal.TheVariants.{BadLine, TooManyTicks, TooManyFrames, TooManyLines}
use Rattle.script_model.specs.declared.sides.SideLine.{SideLine}
use Rattle.script_model.specs.Faults.{no_faults, Standings, may_come, faults_with, standings_after}
use Rattle.script_model.specs.Lines.{line_of}
use Rattle.script_model.specs.Judging.{ScriptData, Place, Judged, More, Done, Refused, judge_line, judged}
use Rattle.script_model.proofs.Counting.{ended_on, stopped_on}
use Rattle.script_model.specs.Meaning.{Reading, InLine, Ended, Stopped, take_bytes, line_ends, finished, outcome, last_line, Meaning}
use Rattle.script_model.specs.declared.refusals.Refusal.{Refusal}
use Rattle.script_model.specs.declared.refusals.Refusal.TheVariants.{NoEnd}
use Rattle.script_laws.specs.Spelling.{EntryText, Remark, FrameIn, WordsIn, TruthIn, FaultIn, line_text, entry_line, ticks_line, IsOneLine, IsEntry, IsRemark, IsAfter, inputs_with}
use Rattle.script_laws.proofs.Ticks.{so_far}
use Rattle.script_model.proofs.Choices.{choose}
use Rattle.script_laws.proofs.LineForms.{Spells, line_spells}

-- what a place of a script of Form Replay keeps
pub record State : Type 0 where
  pub done : List InputData
  pub frames : List FrameData
  pub faults : FaultData
  pub wires_given : Bool
  pub truth_given : List Bool
  pub waiting : Bool
  pub others : ℕ
  pub standings : Standings
  pub words : WireWords
  pub truth : List ℕ

abbrev pub place : Settings → State → Place
place c st = record {
  form = Replay;
  script = so_far c st.done;
  frames = st.frames;
  faults = st.faults;
  wires_given = st.wires_given;
  truth_given = st.truth_given;
  waiting = st.waiting;
  others = st.others;
  standings = st.standings;
  words = st.words;
  truth = st.truth;
}

-- behind a tick line
abbrev pub fresh : List InputData → Standings → WireWords → List ℕ → State
fresh done standings words truth = record {
  done = done;
  frames = [];
  faults = no_faults;
  wires_given = false;
  truth_given = replicate SOURCES false;
  waiting = false;
  others = 0;
  standings = standings;
  words = words;
  truth = truth;
}

-- behind an entry
abbrev pub put : State → EntryText → State
put st (Remark text) = record st { others = st.others + 1 }
put st (FrameIn f) = record st { frames = st.frames ++ f ∷ []; waiting = true; others = st.others + 1 }
put st (WordsIn w) = record st { words = w; wires_given = true; waiting = true; others = st.others + 1 }
put st (TruthIn j w) = record st {
  truth = set st.truth (j - 1) w;
  truth_given = set st.truth_given (j - 1) true;
  waiting = true;
  others = st.others + 1;
}
put st (FaultIn side l) = record st { faults = faults_with st.faults side l; waiting = true; others = st.others + 1 }

-- behind a line of n ticks
abbrev pub ticked_by : State → ℕ → State
ticked_by st n = fresh (st.done ++ inputs_with st.frames st.faults st.words st.truth n) (standings_after st.standings st.faults)
    st.words st.truth

-- the entry is not one too many, and may stand there
abbrev pub Fits : State → EntryText → Type 0
Fits st (Remark text) = Unit {0}
Fits st (FrameIn f) = length st.frames < 16
Fits st (WordsIn w) = st.wires_given ≡ false
Fits st (TruthIn j w) = get_or st.truth_given (j - 1) false ≡ false
Fits st (FaultIn side l) = may_come st.standings st.faults side l ≡ true

pub record May (st : State) (e : EntryText) : Type 0 where
  pub few : st.others < MOST_LINES
  pub fits : Fits st e

pub record MayTick (c : Settings) (st : State) (n : ℕ) : Type 0 where
  pub least : 1 ≤ n
  pub most : n ≤ MOST_TICKS
  pub room : length st.done + n ≤ c.ticks

-- what a line does
pub data Step (c : Settings) (st : State) (text : List ℕ) (j : Judged) : Type 0 where
  an_entry : (e : EntryText) → IsEntry e → May st e → text ≡ entry_line e → j ≡ More (place c (put st e)) → Step c st text j
  some_ticks : (n : ℕ) → MayTick c st n → text ≡ ticks_line n → j ≡ More (place c (ticked_by st n)) → Step c st text j
  the_end : text ≡ codes "e" → st.waiting ≡ false → j ≡ Done → Step c st text j
  a_refusal : (reason : LineRefusal) → j ≡ Refused reason → Step c st text j

pub under : (a b : ℕ) → nat_lt a b ≡ true → a < b
under a b is = search rules

pub not_under : (a b : ℕ) → nat_lt a b ≡ false → b ≤ a
not_under a b is = grind (arith, common_steps)

step_frame : (c : Settings) (st : State) (text : List ℕ) (f : FrameData) (few few' : Bool) → nat_lt st.others MOST_LINES ≡ few
    → nat_lt (length st.frames) 16 ≡ few'
    → Spells text (line.Entry (Frame f)) → (n : ℕ) → Step c st text (judged (place c st) n (Some (line.Entry (Frame f))))
step_frame c st text f false few' is is' spells n = a_refusal TooManyLines (rw is refl)
step_frame c st text f true false is is' spells n = a_refusal TooManyFrames (rw (is, is') refl)
step_frame c st text f true true is is' spells n =
    an_entry (FrameIn f) spells.1 (record { few = under _ _ is; fits = under _ _ is' }) spells.0 (rw (is, is') refl)

step_wires : (c : Settings) (st : State) (text : List ℕ) (a b : ℕ) (few given : Bool) → nat_lt st.others MOST_LINES ≡ few
    → st.wires_given ≡ given
    → Spells text (line.Entry (Wires a b)) → (n : ℕ) → Step c st text (judged (place c st) n (Some (line.Entry (Wires a b))))
step_wires c st text a b false given is is' spells n = a_refusal TooManyLines (rw is refl)
step_wires c st text a b true true is is' spells n = a_refusal BadLine (rw (is, is') refl)
step_wires c st text a b true false is is' spells n =
    an_entry (WordsIn (record { a = a; b = b })) (spells.1, spells.2) (record { few = under _ _ is; fits = is' }) spells.0
    (rw (is, is') refl)

step_truth : (c : Settings) (st : State) (text : List ℕ) (j w : ℕ) (few given : Bool) → nat_lt st.others MOST_LINES ≡ few
    → get_or st.truth_given (j - 1) false ≡ given
    → Spells text (line.Entry (Truth j w)) → (n : ℕ) → Step c st text (judged (place c st) n (Some (line.Entry (Truth j w))))
step_truth c st text j w false given is is' spells n = a_refusal TooManyLines (rw is refl)
step_truth c st text j w true true is is' spells n = a_refusal BadLine (rw (is, is') refl)
step_truth c st text j w true false is is' spells n =
    an_entry (TruthIn j w) (spells.1, spells.2, spells.3) (record { few = under _ _ is; fits = is' }) spells.0 (rw (is, is') refl)

step_blank : (c : Settings) (st : State) (text : List ℕ) (few : Bool) → nat_lt st.others MOST_LINES ≡ few
    → IsRemark text → (n : ℕ) → Step c st text (judged (place c st) n (Some (line.Entry Blank)))
step_blank c st text false is remark n = a_refusal TooManyLines (rw is refl)
step_blank c st text true is remark n = an_entry (Remark text) remark (record { few = under _ _ is; fits = tt }) refl (rw is refl)

step_side : (c : Settings) (st : State) (text : List ℕ) (side : Side) (l : SideLine) (few may : Bool) → nat_lt st.others MOST_LINES ≡ few
    → may_come st.standings st.faults side l ≡ may → Spells text (line.Entry (OfSide side l)) → (n : ℕ)
    → Step c st text (judged (place c st) n (Some (line.Entry (OfSide side l))))
step_side c st text side l false may is is' spells n = a_refusal TooManyLines (rw is refl)
step_side c st text side l true false is is' spells n = a_refusal BadLine (rw (is, is') refl)
step_side c st text side l true true is is' spells n =
    an_entry (FaultIn side l) spells.1 (record { few = under _ _ is; fits = is' }) spells.0 (rw (is, is') refl)

step_none : (c : Settings) (st : State) (text : List ℕ) (few : Bool) → nat_lt st.others MOST_LINES ≡ few → (n : ℕ)
    → Step c st text (judged (place c st) n None)
step_none c st text false is n = a_refusal TooManyLines (rw is refl)
step_none c st text true is n = a_refusal BadLine (rw is refl)

step_tick : (c : Settings) (st : State) (text : List ℕ) (k : ℕ) (full : Bool) → nat_lt c.ticks (length st.done + k) ≡ full
    → Spells text (line.Tick k) → (n : ℕ) → Step c st text (judged (place c st) n (Some (line.Tick k)))
step_tick c st text k true is spells n = a_refusal TooManyTicks (rw is refl)
step_tick c st text k false is spells n =
    some_ticks k (record { least = spells.1; most = spells.2; room = not_under _ _ is }) spells.0 (rw is refl)

step_end : (c : Settings) (st : State) (text : List ℕ) (waiting : Bool) → st.waiting ≡ waiting
    → Spells text line.End → (n : ℕ) → Step c st text (judged (place c st) n (Some line.End))
step_end c st text true is spells n = a_refusal BadLine (rw is refl)
step_end c st text false is spells n = the_end spells is (rw is refl)

step_some : (c : Settings) (st : State) (text : List ℕ) (l : Line) → IsOneLine text → length text ≤ LONGEST_LINE → Spells text l
    → (n : ℕ) → Step c st text (judged (place c st) n (Some l))
step_some c st text (line.Entry Blank) one short spells n = step_blank c st text _ refl
    (record { begins = spells; one = one; short = short }) n
step_some c st text (line.Entry (Frame f)) one short spells n = step_frame c st text f _ _ refl refl spells n
step_some c st text (line.Entry (Wires a b)) one short spells n = step_wires c st text a b _ _ refl refl spells n
step_some c st text (line.Entry (Truth j w)) one short spells n = step_truth c st text j w _ _ refl refl spells n
step_some c st text (line.Entry (OfSide side l)) one short spells n = step_side c st text side l _ _ refl refl spells n
step_some c st text (line.Tick k) one short spells n = step_tick c st text k _ refl spells n
step_some c st text line.End one short spells n = step_end c st text _ refl spells n

step_by : (c : Settings) (st : State) (text : List ℕ) (o : Option Line) → line_of text ≡ o → IsOneLine text → length text ≤ LONGEST_LINE
    → (n : ℕ) → Step c st text (judged (place c st) n o)
step_by c st text None is one short n = step_none c st text _ refl n
step_by c st text (Some l) is one short n = step_some c st text l one short (line_spells text l is) n

step : (c : Settings) (st : State) (text : List ℕ) (n : ℕ) → IsOneLine text → length text ≤ LONGEST_LINE
    → Step c st text (judge_line (place c st) n text)
unfolding judge_line
step c st text n one short = step_by c st text (line_of text) refl one short n

-- ---- the lines that were read

pub data Item : Type 0 where
  AnEntry : EntryText → Item
  SomeTicks : ℕ → Item

abbrev pub item_line : Item → List ℕ
item_line (AnEntry e) = entry_line e
item_line (SomeTicks n) = ticks_line n

abbrev pub item_text : Item → List ℕ
item_text i = line_text (item_line i)

abbrev pub Walks : Settings → State → List Item → State → Type 0
Walks c st [] last = st ≡ last
Walks c st (AnEntry e ∷ is) last = IsEntry e × May st e × Walks c (put st e) is last
Walks c st (SomeTicks n ∷ is) last = MayTick c st n × Walks c (ticked_by st n) is last

pub record Walked (c : Settings) (st : State) (text : List ℕ) (s : ScriptData) : Type 0 where
  pub items : List Item
  pub last : State
  pub after : List ℕ
  pub walks : Walks c st items last
  pub whole : text ≡ flat_map item_text items ++ (codes "e" ++ after)
  pub end : IsAfter after
  pub still : last.waiting ≡ false
  pub is : s ≡ so_far c last.done

-- the reading comes to this script
abbrev pub Comes : Reading → List ℕ → ScriptData → Type 0
Comes r text s = outcome (finished (take_bytes r text)) ≡ Ok s

pub never : {P : Type 0} (r : Refusal) (used : ℕ) (text : List ℕ) (s : ScriptData) → Comes (Stopped r used) text s → P
never r used text s comes =
    let e : Err r ≡ Ok s = sym (ap (λ x. outcome (finished x)) (stopped_on r used text)) ∙ comes in absurd cc

ended_is : (script s : ScriptData) (used : ℕ) (text : List ℕ) → Comes (Ended script used) text s → script ≡ s
ended_is script s used text comes =
    let e : Ok script ≡ Ok s = sym (ap (λ x. outcome (finished x)) (ended_on script used text)) ∙ comes in cc

-- one more line in front
walked_by : (c : Settings) (st st' : State) (i : Item) (line tail : List ℕ) (s : ScriptData) → line ≡ item_line i
    → ((items : List Item) (last : State) → Walks c st' items last → Walks c st (i ∷ items) last)
    → Walked c st' tail s → Walked c st (line ++ 10 ∷ tail) s
walked_by c st st' i line tail s is walks w = record {
  items = i ∷ w.items;
  last = w.last;
  after = w.after;
  walks = walks w.items w.last w.walks;
  whole = ap (λ x. x ++ 10 ∷ tail) is ∙ ap (λ x. item_line i ++ 10 ∷ x) w.whole
      ∙ sym (append_assoc (line_text (item_line i)) (flat_map item_text w.items) (codes "e" ++ w.after)
      ∙ append_assoc (item_line i) (10 ∷ []) (flat_map item_text w.items ++ (codes "e" ++ w.after)));
  end = w.end;
  still = w.still;
  is = w.is;
}

-- the end, and what stands behind it
walked_end : (c : Settings) (st : State) (line after : List ℕ) (s : ScriptData) → line ≡ codes "e" → st.waiting ≡ false → IsAfter after
    → so_far c st.done ≡ s
    → Walked c st (line ++ after) s
walked_end c st line after s is still end script = record {
  items = [];
  last = st;
  after = after;
  walks = refl;
  whole = ap (λ x. x ++ after) is;
  end = end;
  still = still;
  is = sym script;
}

-- the line feed of a line
feed : (c : Settings) (st : State) (line text : List ℕ) (n used : ℕ) (s : ScriptData) (j : Judged) → Step c st line j
    → Comes (line_ends (place c st) j n used) text s
    → ((st' : State) → Comes (InLine (place c st') (n + 1) used []) text s → Walked c st' text s)
    → Walked c st (line ++ 10 ∷ text) s
feed c st line text n used s j (an_entry e is may spells goes) comes recur =
    walked_by c st (put st e) (AnEntry e) line text s spells (λ items last w. (is, may, w))
    (recur (put st e) (subst (λ x. Comes (line_ends (place c st) x n used) text s) goes comes))
feed c st line text n used s j (some_ticks k may spells goes) comes recur =
    walked_by c st (ticked_by st k) (SomeTicks k) line text s spells (λ items last w. (may, w))
    (recur (ticked_by st k) (subst (λ x. Comes (line_ends (place c st) x n used) text s) goes comes))
feed c st line text n used s j (the_end spells still goes) comes recur =
    walked_end c st line (10 ∷ text) s spells still refl
    (ended_is (so_far c st.done) s used text (subst (λ x. Comes (line_ends (place c st) x n used) text s) goes comes))
feed c st line text n used s j (a_refusal reason goes) comes recur =
    never _ used text s (subst (λ x. Comes (line_ends (place c st) x n used) text s) goes comes)

-- the last line, which has no line feed
last_by : (c : Settings) (st : State) (line : List ℕ) (n used : ℕ) (s : ScriptData) (j : Judged) → Step c st line j
    → outcome (last_line (place c st) j n used) ≡ Ok s → Walked c st (line ++ []) s
last_by c st line n used s j (an_entry e is may spells goes) comes =
    let e : Err NoEnd ≡ Ok s = subst (λ x. outcome (last_line (place c st) x n used) ≡ Ok s) goes comes in absurd cc
last_by c st line n used s j (some_ticks k may spells goes) comes =
    let e : Err NoEnd ≡ Ok s = subst (λ x. outcome (last_line (place c st) x n used) ≡ Ok s) goes comes in absurd cc
last_by c st line n used s j (the_end spells still goes) comes =
    let e : Ok (so_far c st.done) ≡ Ok s = subst (λ x. outcome (last_line (place c st) x n used) ≡ Ok s) goes comes in
    walked_end c st line [] s spells still tt cc
last_by c st line n used s j (a_refusal reason goes) comes =
    let e = subst (λ x. outcome (last_line (place c st) x n used) ≡ Ok s) goes comes in absurd cc

pub no_feed_more : (line : List ℕ) (b : ℕ) → IsOneLine line → (b == 10) ≡ false → IsOneLine (line ++ b ∷ [])
no_feed_more [] b one is = (is, tt)
no_feed_more (x ∷ line) b one is = (one.0, no_feed_more line b one.1 is)

outcome_if : (t : Bool) (x y : Meaning) (o : Result ScriptData Refusal) → outcome (if t then x else y) ≡ o
    → (if t then outcome x else outcome y) ≡ o
outcome_if true x y o e = e
outcome_if false x y o e = e

ten_by : (c : Settings) (st : State) (line : List ℕ) (b : ℕ) (text : List ℕ) (s : ScriptData) → (b == 10) ≡ true
    → Walked c st (line ++ 10 ∷ text) s
    → Walked c st (line ++ b ∷ text) s
ten_by c st line b text s is w = let ten : b ≡ 10 = grind (arith, common_steps) in subst (λ x. Walked c st (line ++ x ∷ text) s) (sym ten) w

-- a text that comes to a script, from a line on
pub walked : (text : List ℕ) (c : Settings) (st : State) (n used : ℕ) (line : List ℕ) (s : ScriptData) → IsOneLine line
    → length line ≤ LONGEST_LINE
    → Comes (InLine (place c st) n used line) text s → Walked c st (line ++ text) s
walked [] c st n used line s one short comes = choose (bytes_eq line (codes "e")) _ _ (Ok s) (outcome_if _ _ _ _ comes)
    (λ is e. last_by c st line n used s _ (step c st line n one short) e)
    (λ is e. absurd cc)
walked (b ∷ text) c st n used line s one short comes = elim (cases_Bool (b == 10)) [
  | inl is ↦ ten_by c st line b text s is (feed c st line text n (used + 1) s _ (step c st line n one short) (rw is at comes)
      (λ st' comes'. walked text c st' (n + 1) (used + 1) [] s tt (omega arith) comes'))
  | inr is ↦ elim (cases_Bool (nat_lt (length line) LONGEST_LINE)) [
    | inl few ↦ let grown : length (line ++ b ∷ []) ≡ length line + 1 = simp length-append in
        let less : length line < LONGEST_LINE = search rules in
        subst (λ x. Walked c st x s) (append_assoc line (b ∷ []) text)
        (walked text c st n (used + 1) (line ++ b ∷ []) s (no_feed_more line b one is) (omega arith) (rw (is, few) at comes))
    | inr many ↦ never _ (used + 1) text s (rw (is, many) at comes)
  ]
]
