-- The lines that were read, put together in groups.
use Rattle.lift_base.specs.declared.TheConstants.{SOURCES}
use Rattle.std.proofs.Common.{◌≡◌, ◌≢◌, inl, inr, ◌≤◌, ◌+◌, ◌-◌, ◌++◌, ◌==◌, List, [], ◌∷◌, ℕ, zero, suc, length, refl, sym, ap, ◌∙◌, subst, arith, true, false, Bool, append_assoc, append-nil, length-append, get_or, set, replicate}
use Rattle.std.specs.List.{flat_map, AllByRecursion}
use Rattle.std.proofs.lemmas.Bool.{cases_Bool}
use Rattle.std.proofs.lemmas.Grind.{common_steps, flat_map-append}
use Rattle.std.proofs.lemmas.List.{get_or-set_same, get_or-set_other, length-replicate, length-set}
use Rattle.lift_base.specs.declared.limits.TheConstants.{MOST_LINES}
use Rattle.lift_model.specs.Records.{WireWords, Settings, InputData, FaultData}
use Rattle.script_model.specs.Faults.{no_faults, Standings, all_stand, may_come, standings_after}
use Rattle.script_laws.specs.Spelling.{EntryText, Remark, FrameIn, WordsIn, TruthIn, FaultIn, Group, line_text, entry_text, ticks_line, group_text, IsEntry, IsRemark, IsGroup, frames_of, words_of, truth_of, words_by, words_behind, truth_by, truth_behind, faults_by, faults_behind, AllMayStand, put_before, GroupsMayStand, inputs_with, inputs_of}
use Rattle.script_laws.proofs.FaultLines.{BothAre, MayCome, stands_so, both_more, both_after, both_start, put_before-more, put_before-append, all_stand-more}
use Rattle.script_laws.proofs.Walks.{State, fresh, put, ticked_by, May, MayTick, Item, AnEntry, SomeTicks, item_text, Walks}

-- one, where it was given
abbrev pub told : Bool → ℕ
told true = 1
told false = 0

pub told_most : (b : Bool) → told b ≤ 1
told_most true = omega arith
told_most false = omega arith

-- entries that are all remarks
record AreRemarks (es : List EntryText) : Type 0 where
  remarks : List (List ℕ)
  each : AllByRecursion IsRemark remarks
  text : flat_map entry_text es ≡ flat_map line_text remarks
  many : length remarks ≡ length es

-- the state behind these entries, since a tick line
record Kept (done : List InputData) (words : WireWords) (truth : List ℕ) (st : State) (es : List EntryText) : Type 0 where
  entries : AllByRecursion IsEntry es
  others : st.others ≡ length es
  most : st.others ≤ MOST_LINES
  frames : st.frames ≡ flat_map frames_of es
  few : length st.frames ≤ 16
  words_told : told st.wires_given ≡ length (flat_map words_of es)
  truth_long : length st.truth_given ≡ SOURCES
  truth_told : (j : ℕ) → 1 ≤ j → told (get_or st.truth_given (j - 1) false) ≡ length (flat_map (truth_of j) es)
  is_done : st.done ≡ done
  is_words : st.words ≡ words_behind words es
  is_truth : st.truth ≡ truth_behind truth es
  still : st.waiting ≡ false → AreRemarks es

pub all_more : {A : Type 0} (P : A → Type 0) (xs : List A) (x : A) → AllByRecursion P xs → P x → AllByRecursion P (xs ++ x ∷ [])
all_more P [] x each is = (is, tt)
all_more P (y ∷ xs) x each is = (each.0, all_more P xs x each.1 is)

words_more : (words : WireWords) (es : List EntryText) (e : EntryText)
    → words_behind words (es ++ e ∷ []) ≡ words_by (words_behind words es) e
words_more words [] e = refl
words_more words (x ∷ es) e = words_more (words_by words x) es e

truth_more : (truth : List ℕ) (es : List EntryText) (e : EntryText) → truth_behind truth (es ++ e ∷ []) ≡ truth_by (truth_behind truth es) e
truth_more truth [] e = refl
truth_more truth (x ∷ es) e = truth_more (truth_by truth x) es e

pub all_false : (n i : ℕ) → get_or (replicate n false) i false ≡ false
all_false zero i = refl
all_false (suc n) zero = refl
all_false (suc n) (suc i) = all_false n i

kept_fresh : (done : List InputData) (s : Standings) (words : WireWords) (truth : List ℕ)
    → Kept done words truth (fresh done s words truth) []
kept_fresh done s words truth = record {
  entries = tt;
  others = refl;
  most = omega arith;
  frames = refl;
  few = omega arith;
  words_told = refl;
  truth_long = refl;
  truth_told = λ j least. ap told (all_false SOURCES (j - 1));
  is_done = refl;
  is_words = refl;
  is_truth = refl;
  still = λ is. record { remarks = []; each = tt; text = refl; many = refl };
}

-- what one more entry gives
gives : {A : Type 0} (f : EntryText → List A) (es : List EntryText) (e : EntryText) → flat_map f (es ++ e ∷ []) ≡ flat_map f es ++ f e
gives f es e = flat_map-append f es (e ∷ []) ∙ ap (λ x. flat_map f es ++ x) (append-nil (f e))

gives_none : {A : Type 0} (f : EntryText → List A) (es : List EntryText) (e : EntryText) → f e ≡ []
    → flat_map f (es ++ e ∷ []) ≡ flat_map f es
gives_none f es e is = gives f es e ∙ ap (λ x. flat_map f es ++ x) is ∙ append-nil (flat_map f es)

gives_one : {A : Type 0} (f : EntryText → List A) (es : List EntryText) (e : EntryText) (x : A) → f e ≡ x ∷ []
    → length (flat_map f (es ++ e ∷ [])) ≡ length (flat_map f es) + 1
gives_one f es e x is = ap length (gives f es e ∙ ap (λ z. flat_map f es ++ z) is) ∙ length-append (flat_map f es) (x ∷ [])

one_more : (es : List EntryText) (e : EntryText) → length (es ++ e ∷ []) ≡ length es + 1
one_more es e = length-append es (e ∷ [])

more_remarks : (es : List EntryText) (line : List ℕ) → IsRemark line → AreRemarks es → AreRemarks (es ++ Remark line ∷ [])
more_remarks es line is r = record {
  remarks = r.remarks ++ line ∷ [];
  each = all_more IsRemark r.remarks line r.each is;
  text = gives entry_text es (Remark line) ∙ ap (λ x. x ++ line_text line) r.text
      ∙ sym (flat_map-append line_text r.remarks (line ∷ []) ∙ ap (λ x. flat_map line_text r.remarks ++ x) (append-nil (line_text line)));
  many = length-append r.remarks (line ∷ []) ∙ ap (λ n. n + 1) r.many ∙ sym (one_more es (Remark line));
}

truth_by_now : (given : List Bool) (i j w : ℕ) (es : List EntryText) → length given ≡ SOURCES → 1 ≤ i → i ≤ SOURCES → 1 ≤ j
    → get_or given (i - 1) false ≡ false
    → told (get_or given (j - 1) false) ≡ length (flat_map (truth_of j) es)
    → told (get_or (set given (i - 1) true) (j - 1) false) ≡ length (flat_map (truth_of j) (es ++ TruthIn i w ∷ []))
truth_by_now given i j w es long least most least' free is = elim (cases_Bool (i == j)) [
  | inl same ↦ let e : i ≡ j = grind (arith, common_steps) in
      let now : get_or (set given (i - 1) true) (j - 1) false ≡ true =
      subst (λ x. get_or (set given (i - 1) true) (x - 1) false ≡ true) e (get_or-set_same given (i - 1) true false (omega arith)) in
      let before : told (get_or given (j - 1) false) ≡ 0 = ap told (subst (λ x. get_or given (x - 1) false ≡ false) e free) in
      let more = gives_one (truth_of j) es (TruthIn i w) w (rw same refl) in
      ap told now ∙ omega (arith, before, more, is)
  | inr differ ↦ let n : j - 1 ≢ i - 1 = λ z. let e : i ≡ j = omega arith in grind (arith, common_steps) in
      ap told (get_or-set_other given (i - 1) (j - 1) true false n) ∙ is
      ∙ ap length (sym (gives_none (truth_of j) es (TruthIn i w) (rw differ refl)))
]

keep : (done : List InputData) (words : WireWords) (truth : List ℕ) (st : State) (es : List EntryText) (e : EntryText)
    → Kept done words truth st es → IsEntry e → May st e → Kept done words truth (put st e) (es ++ e ∷ [])
keep done words truth st es (Remark line) k is may = record {
  entries = all_more IsEntry es (Remark line) k.entries is;
  others = ap (λ n. n + 1) k.others ∙ sym (one_more es (Remark line));
  most = omega (arith, may.few);
  frames = k.frames ∙ sym (gives_none frames_of es (Remark line) refl);
  few = k.few;
  words_told = k.words_told ∙ ap length (sym (gives_none words_of es (Remark line) refl));
  truth_long = k.truth_long;
  truth_told = λ j least. k.truth_told j least ∙ ap length (sym (gives_none (truth_of j) es (Remark line) refl));
  is_done = k.is_done;
  is_words = k.is_words ∙ sym (words_more words es (Remark line));
  is_truth = k.is_truth ∙ sym (truth_more truth es (Remark line));
  still = λ s. more_remarks es line is (k.still s);
}
keep done words truth st es (FrameIn f) k is may = record {
  entries = all_more IsEntry es (FrameIn f) k.entries is;
  others = ap (λ n. n + 1) k.others ∙ sym (one_more es (FrameIn f));
  most = omega (arith, may.few);
  frames = ap (λ x. x ++ f ∷ []) k.frames ∙ sym (gives frames_of es (FrameIn f));
  few = let grown = length-append st.frames (f ∷ []) in omega (arith, grown, may.fits);
  words_told = k.words_told ∙ ap length (sym (gives_none words_of es (FrameIn f) refl));
  truth_long = k.truth_long;
  truth_told = λ j least. k.truth_told j least ∙ ap length (sym (gives_none (truth_of j) es (FrameIn f) refl));
  is_done = k.is_done;
  is_words = k.is_words ∙ sym (words_more words es (FrameIn f));
  is_truth = k.is_truth ∙ sym (truth_more truth es (FrameIn f));
  still = λ s. absurd cc;
}
keep done words truth st es (WordsIn w) k is may = record {
  entries = all_more IsEntry es (WordsIn w) k.entries is;
  others = ap (λ n. n + 1) k.others ∙ sym (one_more es (WordsIn w));
  most = omega (arith, may.few);
  frames = k.frames ∙ sym (gives_none frames_of es (WordsIn w) refl);
  few = k.few;
  words_told = let before : told st.wires_given ≡ 0 = ap told may.fits in
      let more = gives_one words_of es (WordsIn w) w refl in omega (arith, before, more, k.words_told);
  truth_long = k.truth_long;
  truth_told = λ j least. k.truth_told j least ∙ ap length (sym (gives_none (truth_of j) es (WordsIn w) refl));
  is_done = k.is_done;
  is_words = sym (words_more words es (WordsIn w));
  is_truth = k.is_truth ∙ sym (truth_more truth es (WordsIn w));
  still = λ s. absurd cc;
}
keep done words truth st es (TruthIn i w) k is may = record {
  entries = all_more IsEntry es (TruthIn i w) k.entries is;
  others = ap (λ n. n + 1) k.others ∙ sym (one_more es (TruthIn i w));
  most = omega (arith, may.few);
  frames = k.frames ∙ sym (gives_none frames_of es (TruthIn i w) refl);
  few = k.few;
  words_told = k.words_told ∙ ap length (sym (gives_none words_of es (TruthIn i w) refl));
  truth_long = length-set st.truth_given (i - 1) true ∙ k.truth_long;
  truth_told = λ j least. truth_by_now st.truth_given i j w es k.truth_long is.0 is.1 least may.fits (k.truth_told j least);
  is_done = k.is_done;
  is_words = k.is_words ∙ sym (words_more words es (TruthIn i w));
  is_truth = ap (λ (x : List ℕ). set x (i - 1) w) k.is_truth ∙ sym (truth_more truth es (TruthIn i w));
  still = λ s. absurd cc;
}
keep done words truth st es (FaultIn side l) k is may = record {
  entries = all_more IsEntry es (FaultIn side l) k.entries is;
  others = ap (λ n. n + 1) k.others ∙ sym (one_more es (FaultIn side l));
  most = omega (arith, may.few);
  frames = k.frames ∙ sym (gives_none frames_of es (FaultIn side l) refl);
  few = k.few;
  words_told = k.words_told ∙ ap length (sym (gives_none words_of es (FaultIn side l) refl));
  truth_long = k.truth_long;
  truth_told = λ j least. k.truth_told j least ∙ ap length (sym (gives_none (truth_of j) es (FaultIn side l) refl));
  is_done = k.is_done;
  is_words = k.is_words ∙ sym (words_more words es (FaultIn side l));
  is_truth = k.is_truth ∙ sym (truth_more truth es (FaultIn side l));
  still = λ s. absurd cc;
}

-- ---- faults

faults_more : (f : FaultData) (es : List EntryText) (e : EntryText) → faults_behind f (es ++ e ∷ []) ≡ faults_by (faults_behind f es) e
faults_more f [] e = refl
faults_more f (x ∷ es) e = faults_more (faults_by f x) es e

-- the faults behind these entries, where the sides stood so before them, behind the lines of earlier ticks
record FaultsAre (places : List Bool) (past : List EntryText) (s : Standings) (st : State) (es : List EntryText) : Type 0 where
  faults : st.faults ≡ faults_behind no_faults es
  stands : st.standings ≡ s
  both : BothAre places s st.faults (put_before [] es) past
  may : AllMayStand places [] past es

may_come_of : (st : State) (s : Standings) (e : EntryText) → st.standings ≡ s → May st e → MayCome s st.faults e
may_come_of st s (Remark line) is may = tt
may_come_of st s (FrameIn f) is may = tt
may_come_of st s (WordsIn w) is may = tt
may_come_of st s (TruthIn i w) is may = tt
may_come_of st s (FaultIn side l) is may = subst (λ (x : Standings). may_come x st.faults side l ≡ true) is may.fits

put_faults : (st : State) (e : EntryText) → (put st e).faults ≡ faults_by st.faults e
put_faults st (Remark line) = refl
put_faults st (FrameIn f) = refl
put_faults st (WordsIn w) = refl
put_faults st (TruthIn i w) = refl
put_faults st (FaultIn side l) = refl

put_stands : (st : State) (e : EntryText) → (put st e).standings ≡ st.standings
put_stands st (Remark line) = refl
put_stands st (FrameIn f) = refl
put_stands st (WordsIn w) = refl
put_stands st (TruthIn i w) = refl
put_stands st (FaultIn side l) = refl

keep_faults : (places : List Bool) (past : List EntryText) (s : Standings) (st : State) (es : List EntryText) (e : EntryText)
    → FaultsAre places past s st es → IsEntry e → May st e → FaultsAre places past s (put st e) (es ++ e ∷ [])
keep_faults places past s st es e k is may =
    let come = may_come_of st s e k.stands may in
    let one = both_more places s st.faults (put_before [] es) past e k.both is come in
    record {
      faults = put_faults st e ∙ ap (λ (f : FaultData). faults_by f e) k.faults ∙ sym (faults_more no_faults es e);
      stands = put_stands st e ∙ k.stands;
      both = subst (λ xs. BothAre places s (put st e).faults xs past) (sym (put_before-more [] es e))
          (subst (λ (f : FaultData). BothAre places s f (e ∷ put_before [] es) past) (sym (put_faults st e)) one);
      may = all_stand-more places [] past es e k.may (stands_so places s st.faults (put_before [] es) past e k.both come);
    }

fresh_faults : (places : List Bool) (past : List EntryText) (done : List InputData) (s : Standings) (words : WireWords) (truth : List ℕ)
    → BothAre places s no_faults [] past → FaultsAre places past s (fresh done s words truth) []
fresh_faults places past done s words truth both = record { faults = refl; stands = refl; both = both; may = tt }

-- how the sides stand behind a tick of these entries
abbrev stands_behind : Standings → List EntryText → Standings
stands_behind s es = standings_after s (faults_behind no_faults es)

next_both : (places : List Bool) (past : List EntryText) (s : Standings) (st : State) (es : List EntryText) → FaultsAre places past s st es
    → BothAre places (stands_behind s es) no_faults [] (put_before past es)
next_both places past s st es k =
    subst (λ xs. BothAre places (stands_behind s es) no_faults [] xs) (sym (put_before-append [] past es))
    (subst (λ (f : FaultData). BothAre places (standings_after s f) no_faults [] (put_before [] es ++ past)) k.faults
    (both_after places s st.faults (put_before [] es) past k.both))

-- ---- groups

-- these entries and items are groups, and remarks behind them
pub record Grouped (places : List Bool) (past : List EntryText) (c : Settings) (done : List InputData) (words : WireWords) (truth : List ℕ)
    (text : List ℕ) (all : List InputData) : Type 0 where
  pub groups : List Group
  pub remarks : List (List ℕ)
  pub group_lines : AllByRecursion IsGroup groups
  pub fault_lines : GroupsMayStand places past groups
  pub remark_lines : AllByRecursion IsRemark remarks
  pub few_remarks : length remarks ≤ MOST_LINES
  pub spelling : text ≡ flat_map group_text groups ++ flat_map line_text remarks
  pub inputs : all ≡ done ++ inputs_of words truth groups
  pub few : length all ≤ c.ticks

group_is : (done : List InputData) (words : WireWords) (truth : List ℕ) (c : Settings) (st : State) (es : List EntryText) (n : ℕ)
    → Kept done words truth st es → MayTick c st n → IsGroup (record { entries = es; ticks = n })
group_is done words truth c st es n k may = record {
  entries = k.entries;
  few = omega (arith, k.others, k.most);
  few_frames = let e = ap length k.frames in omega (arith, e, k.few);
  words_once = let e = told_most st.wires_given in omega (arith, e, k.words_told);
  truth_once = λ j least. let a = k.truth_told j least in let b = told_most (get_or st.truth_given (j - 1) false) in omega (arith, a, b);
  some_tick = may.least;
  most = may.most;
}

-- the inputs of n ticks of these entries
abbrev ticks_of : WireWords → List ℕ → List EntryText → ℕ → List InputData
ticks_of words truth es n =
    inputs_with (flat_map frames_of es) (faults_behind no_faults es) (words_behind words es) (truth_behind truth es) n

ticks_are : (places : List Bool) (past : List EntryText) (s : Standings) (done : List InputData) (words : WireWords) (truth : List ℕ)
    (st : State) (es : List EntryText) (n : ℕ) → Kept done words truth st es → FaultsAre places past s st es
    → ticked_by st n
    ≡ fresh (done ++ ticks_of words truth es n) (stands_behind s es) (words_behind words es) (truth_behind truth es)
ticks_are places past s done words truth st es n k f = rw (k.is_done, k.frames, k.is_words, k.is_truth, f.faults, f.stands) refl

length-inputs : (st : State) (n : ℕ) → 1 ≤ n → length (inputs_with st.frames st.faults st.words st.truth n) ≡ n
length-inputs st n least =
    let e = length-replicate {A = InputData} (n - 1)
    (record { frames = []; words = st.words; truth = st.truth; faults = no_faults }) in omega (arith, e)

-- a group in front
grouped_by : (places : List Bool) (past : List EntryText) (c : Settings) (done : List InputData) (words : WireWords) (truth : List ℕ)
    (es : List EntryText) (n : ℕ) (text : List ℕ) (all : List InputData)
    → IsGroup (record { entries = es; ticks = n }) → AllMayStand places [] past es
    → Grouped places (put_before past es) c (done ++ ticks_of words truth es n) (words_behind words es) (truth_behind truth es) text all
    → Grouped places past c done words truth (flat_map entry_text es ++ (line_text (ticks_line n) ++ text)) all
grouped_by places past c done words truth es n text all is may g = record {
  groups = record { entries = es; ticks = n } ∷ g.groups;
  remarks = g.remarks;
  group_lines = (is, g.group_lines);
  fault_lines = (may, g.fault_lines);
  remark_lines = g.remark_lines;
  few_remarks = g.few_remarks;
  spelling = ap (λ x. flat_map entry_text es ++ (line_text (ticks_line n) ++ x)) g.spelling
      ∙ ap (λ x. flat_map entry_text es ++ x) (sym (append_assoc (line_text (ticks_line n)) (flat_map group_text g.groups)
      (flat_map line_text g.remarks)))
      ∙ sym (append_assoc (flat_map entry_text es) (line_text (ticks_line n) ++ flat_map group_text g.groups)
      (flat_map line_text g.remarks))
      ∙ ap (λ x. x ++ flat_map line_text g.remarks)
      (sym (append_assoc (flat_map entry_text es) (line_text (ticks_line n)) (flat_map group_text g.groups)));
  inputs = g.inputs ∙ append_assoc done (ticks_of words truth es n)
      (inputs_of (words_behind words es) (truth_behind truth es) g.groups);
  few = g.few;
}

grouped : (items : List Item) (places : List Bool) (past : List EntryText) (s : Standings) (c : Settings) (done : List InputData)
    (words : WireWords) (truth : List ℕ) (st last : State) (es : List EntryText)
    → Kept done words truth st es → FaultsAre places past s st es → length done ≤ c.ticks → Walks c st items last → last.waiting ≡ false
    → Grouped places past c done words truth (flat_map entry_text es ++ flat_map item_text items) last.done
grouped [] places past s c done words truth st last es k f room walks still =
    let r = k.still (ap (λ (x : State). x.waiting) walks ∙ still) in
    let is : last.done ≡ done = sym (ap (λ (x : State). x.done) walks) ∙ k.is_done in
    record {
      groups = [];
      remarks = r.remarks;
      group_lines = tt;
      fault_lines = tt;
      remark_lines = r.each;
      few_remarks = omega (arith, r.many, k.others, k.most);
      spelling = append-nil (flat_map entry_text es) ∙ r.text;
      inputs = is ∙ sym (append-nil done);
      few = let e = ap length is in omega (arith, e);
    }
grouped (AnEntry e ∷ items) places past s c done words truth st last es k f room walks still =
    let g = grouped items places past s c done words truth (put st e) last (es ++ e ∷ [])
    (keep done words truth st es e k walks.0 walks.1) (keep_faults places past s st es e f walks.0 walks.1) room walks.2 still in
    let text : flat_map entry_text (es ++ e ∷ []) ++ flat_map item_text items ≡ flat_map entry_text es ++
    (entry_text e ++ flat_map item_text items) =
    ap (λ x. x ++ flat_map item_text items) (gives entry_text es e)
    ∙ append_assoc (flat_map entry_text es) (entry_text e) (flat_map item_text items) in
    subst (λ x. Grouped places past c done words truth x last.done) text g
grouped (SomeTicks n ∷ items) places past s c done words truth st last es k f room walks still =
    let words' = words_behind words es in
    let truth' = truth_behind truth es in
    let s' = stands_behind s es in
    let past' = put_before past es in
    let done' = done ++ ticks_of words truth es n in
    let is = ticks_are places past s done words truth st es n k f in
    let long : length done' ≤ c.ticks =
    let a = ap (λ (x : State). length x.done) is in
    let b = length-append st.done (inputs_with st.frames st.faults st.words st.truth n) in
    let d = length-inputs st n walks.0.least in omega (arith, a, b, d, walks.0.room) in
    let w : Walks c (fresh done' s' words' truth') items last = subst (λ (x : State). Walks c x items last) is walks.1 in
    grouped_by places past c done words truth es n (flat_map item_text items) last.done
    (group_is done words truth c st es n k walks.0) f.may
    (grouped items places past' s' c done' words' truth' (fresh done' s' words' truth') last [] (kept_fresh done' s' words' truth')
    (fresh_faults places past' done' s' words' truth' (next_both places past s st es f)) long w still)

-- behind the head
pub all_grouped : (items : List Item) (places : List Bool) (c : Settings) (words : WireWords) (truth : List ℕ) (last : State)
    → Walks c (fresh [] (all_stand places) words truth) items last → last.waiting ≡ false
    → Grouped places [] c [] words truth (flat_map item_text items) last.done
all_grouped items places c words truth last walks still =
    let s = all_stand places in
    grouped items places [] s c [] words truth (fresh [] s words truth) last [] (kept_fresh [] s words truth)
    (fresh_faults places [] [] s words truth (both_start places)) (omega arith) walks still
