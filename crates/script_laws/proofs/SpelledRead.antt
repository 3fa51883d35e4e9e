-- What is spelled is read.
use Rattle.std.proofs.Common.{◌≡◌, ◌≢◌, inl, inr, ◌<◌, ◌≤◌, ◌+◌, ◌-◌, ◌++◌, ◌==◌, List, [], ◌∷◌, ℕ, suc, length, refl, sym, ap, ◌∙◌, subst, arith, true, false, Bool, codes, decimal, append_assoc, rules, nat_lt, nat_le, append-nil, length-append, get_or, set, replicate, Ok, Some}
use Rattle.std.specs.List.{flat_map, AllByRecursion}
use Rattle.std.specs.Str.{bytes_eq}
use Rattle.std.proofs.lemmas.Bool.{cases_Bool, cases_lt}
use Rattle.std.proofs.lemmas.Fmt.{length-decimal-le}
use Rattle.std.proofs.lemmas.Grind.{common_steps}
use Rattle.std.proofs.lemmas.List.{get_or-set_other, length-replicate}
use Rattle.std.proofs.lemmas.Slice.Eq.{bytes_eq-Decides}
use Rattle.lift_base.specs.declared.limits.TheConstants.{HEAD_TOO_LONG, LONGEST_LINE, MOST_LINES, MOST_TICKS}
use Rattle.lift_base.specs.declared.TheConstants.{SOURCES}
use Rattle.lift_base.specs.declared.forms.Form.TheVariants.{Replay}
use Rattle.lift_model.specs.Records.{FrameData, WireWords, Settings, InputData, FaultData}
use Rattle.can_frame.specs.Spelling.{frame_text}
use Rattle.script_model.specs.declared.Line.TheVariants.{Tick, Entry}
use Rattle.script_model.specs.declared.Entry.TheVariants.{Blank, Frame, Wires, Truth}
use Rattle.script_model.specs.Lines.{line_of}
use Rattle.script_model.specs.Faults.{no_faults, Standings, all_stand, standings_after}
use Rattle.script_model.specs.Judging.{ScriptData, judge_line, Done}
use Rattle.script_model.specs.Meaning.{NoFeed, InHead, InLine, take_bytes, finished, outcome, line_ends, MeansScript}
use Rattle.script_model.specs.Text.{wires_text, truth_text}
use Rattle.script_model.proofs.Bytes.{whole_line}
use Rattle.script_model.proofs.Counting.{ended_on}
use Rattle.script_model.proofs.Numbers.{decimal_has_no_feed, number_of-decimal}
use Rattle.script_model.proofs.LinesBack.{line_of-frame, line_of-wires, line_of-truth}
use Rattle.script_laws.specs.Spelling.{EntryText, Remark, FrameIn, WordsIn, TruthIn, FaultIn, Group, line_text, entry_text, ticks_line, group_text, body_of, IsHeadLine, IsEntry, IsRemark, IsGroup, IsAfter, IsSpelled, frames_of, words_of, truth_of, words_behind, truth_behind, faults_behind, AllMayStand, put_before, GroupsMayStand, inputs_with, inputs_of}
use Rattle.script_laws.proofs.Back.{Reads, reads_nothing, reads_both, reads_line, reads_as, frame_has_no_feed, frame_is_short, wires_has_no_feed, truth_has_no_feed}
use Rattle.script_laws.proofs.FaultLines.{BothAre, MayCome, comes_so, both_more, both_after, both_start, put_before-append}
use Rattle.script_laws.proofs.FaultsBack.{reads_side_line}
use Rattle.script_laws.proofs.Head.{Heads, heads_nothing, heads_both, heads_line, head_ends}
use Rattle.script_laws.proofs.Ticks.{so_far}
use Rattle.script_laws.proofs.Walks.{State, place, fresh, put, ticked_by, May}
use Rattle.script_laws.proofs.Groups.{told, told_most, all_false}
use Rattle.script_laws.proofs.LineForms.{many_ticks}

-- ---- a line

over : (a b : ℕ) → a < b → nat_lt a b ≡ true
over a b less = search rules

remark_is : (line : List ℕ) → IsRemark line → line_of line ≡ Some (Entry Blank)
remark_is [] is = refl
remark_is (c ∷ rest) is = let e : c ≡ 35 = is.begins in rw e refl

reads_entry : (c : Settings) (st : State) (e : EntryText) → IsEntry e → May st e → Reads (place c st) (entry_text e) (place c (put st e))
reads_entry c st (Remark line) is may =
    let a = over st.others MOST_LINES may.few in
    reads_line (place c st) (place c (put st (Remark line))) line (Entry Blank) (remark_is line is) (λ n. rw a refl) is.one is.short
reads_entry c st (FrameIn f) is may =
    let a = over st.others MOST_LINES may.few in
    let b = over (length st.frames) 16 may.fits in
    reads_line (place c st) (place c (put st (FrameIn f))) (codes "f " ++ frame_text f) (Entry (Frame f)) (line_of-frame f is)
    (λ n. rw (a, b) refl) (frame_has_no_feed f) (frame_is_short f is)
reads_entry c st (WordsIn w) is may =
    let a = over st.others MOST_LINES may.few in
    let b : st.wires_given ≡ false = may.fits in
    reads_line (place c st) (place c (put st (WordsIn w))) (wires_text w) (Entry (Wires w.a w.b)) (line_of-wires w is.0 is.1)
    (λ n. rw (a, b) refl) (wires_has_no_feed w) (omega arith)
reads_entry c st (TruthIn j w) is may =
    let a = over st.others MOST_LINES may.few in
    let b : get_or st.truth_given (j - 1) false ≡ false = may.fits in
    reads_line (place c st) (place c (put st (TruthIn j w))) (truth_text j w) (Entry (Truth j w)) (line_of-truth j w is.0 is.1 is.2)
    (λ n. rw (a, b) refl) (truth_has_no_feed j w is.0) (omega arith)
reads_entry c st (FaultIn side l) is may = reads_side_line (place c st) side l refl may.few is may.fits

-- ---- the entries of a group

-- so many more may come
record Room (st : State) (es : List EntryText) : Type 0 where
  few : st.others + length es ≤ MOST_LINES
  frames : length st.frames + length (flat_map frames_of es) ≤ 16
  words : told st.wires_given + length (flat_map words_of es) ≤ 1
  truth : (j : ℕ) → 1 ≤ j → told (get_or st.truth_given (j - 1) false) + length (flat_map (truth_of j) es) ≤ 1

none_told : (b : Bool) (n : ℕ) → told b + n ≤ 1 → 1 ≤ n → b ≡ false
none_told true n most least = absurd (omega arith)
none_told false n most least = refl

own_truth : (i w : ℕ) (es : List EntryText) → length (flat_map (truth_of i) (TruthIn i w ∷ es)) ≡ suc (length (flat_map (truth_of i) es))
own_truth i w es = let h : (i == i) ≡ true = grind (arith, common_steps) in rw h refl

may_be : (st : State) (e : EntryText) (es : List EntryText) → Room st (e ∷ es) → IsEntry e → MayCome st.standings st.faults e → May st e
may_be st (Remark line) es r is come = record { few = omega (arith, r.few); fits = tt }
may_be st (FrameIn f) es r is come = record { few = omega (arith, r.few); fits = omega (arith, r.frames) }
may_be st (WordsIn w) es r is come = record { few = omega (arith, r.few); fits = none_told st.wires_given _ r.words (omega arith) }
may_be st (TruthIn i w) es r is come =
    let own = own_truth i w es in
    record { few = omega (arith, r.few); fits = none_told _ _ (r.truth i is.0) (omega (arith, own)) }
may_be st (FaultIn side l) es r is come = record { few = omega (arith, r.few); fits = come }

truth_left : (given : List Bool) (i j w : ℕ) (es : List EntryText) → 1 ≤ i → 1 ≤ j
    → told (get_or given (j - 1) false) + length (flat_map (truth_of j) (TruthIn i w ∷ es)) ≤ 1
    → told (get_or (set given (i - 1) true) (j - 1) false) + length (flat_map (truth_of j) es) ≤ 1
truth_left given i j w es least least' room = elim (cases_Bool (i == j)) [
  | inl same ↦
      let e : i ≡ j = grind (arith, common_steps) in
      let all : length (flat_map (truth_of j) (TruthIn i w ∷ es)) ≡ suc (length (flat_map (truth_of j) es)) = rw same refl in
      let one = told_most (get_or (set given (i - 1) true) (j - 1) false) in
      omega (arith, all, one, room)
  | inr differ ↦
      let n : j - 1 ≢ i - 1 = λ z. let e : i ≡ j = omega arith in grind (arith, common_steps) in
      let same = ap told (get_or-set_other given (i - 1) (j - 1) true false n) in
      let all : length (flat_map (truth_of j) (TruthIn i w ∷ es)) ≡ length (flat_map (truth_of j) es) = rw differ refl in
      omega (arith, all, same, room)
]

room_left : (st : State) (e : EntryText) (es : List EntryText) → Room st (e ∷ es) → IsEntry e → Room (put st e) es
room_left st (Remark line) es r is = record { few = omega (arith, r.few); frames = r.frames; words = r.words; truth = r.truth }
room_left st (FrameIn f) es r is =
    let grown = length-append st.frames (f ∷ []) in
    record { few = omega (arith, r.few); frames = omega (arith, grown, r.frames); words = r.words; truth = r.truth }
room_left st (WordsIn w) es r is = record { few = omega (arith, r.few); frames = r.frames; words = omega (arith, r.words); truth = r.truth }
room_left st (TruthIn i w) es r is = record {
  few = omega (arith, r.few);
  frames = r.frames;
  words = r.words;
  truth = λ j least. truth_left st.truth_given i j w es is.0 least (r.truth j least);
}
room_left st (FaultIn side l) es r is = record { few = omega (arith, r.few); frames = r.frames; words = r.words; truth = r.truth }

abbrev put_all : State → List EntryText → State
put_all st [] = st
put_all st (e ∷ es) = put_all (put st e) es

-- the sides are as the lines say, behind these entries of the tick and those of earlier ones
abbrev AreSo : List Bool → State → List EntryText → List EntryText → Type 0
AreSo places st now past = BothAre places st.standings st.faults now past

so_put : (places : List Bool) (st : State) (now past : List EntryText) (e : EntryText) → AreSo places st now past → IsEntry e
    → MayCome st.standings st.faults e → AreSo places (put st e) (e ∷ now) past
so_put places st now past (Remark line) k is come = both_more places st.standings st.faults now past (Remark line) k is come
so_put places st now past (FrameIn f) k is come = both_more places st.standings st.faults now past (FrameIn f) k is come
so_put places st now past (WordsIn w) k is come = both_more places st.standings st.faults now past (WordsIn w) k is come
so_put places st now past (TruthIn j w) k is come = both_more places st.standings st.faults now past (TruthIn j w) k is come
so_put places st now past (FaultIn side l) k is come = both_more places st.standings st.faults now past (FaultIn side l) k is come

record AfterEntries (places : List Bool) (c : Settings) (st : State) (now past es : List EntryText) : Type 0 where
  reads : Reads (place c st) (flat_map entry_text es) (place c (put_all st es))
  so : AreSo places (put_all st es) (put_before now es) past

reads_entries : (places : List Bool) (c : Settings) (st : State) (now past es : List EntryText) → AllByRecursion IsEntry es → Room st es
    → AllMayStand places now past es → AreSo places st now past → AfterEntries places c st now past es
reads_entries places c st now past [] each room may so = record { reads = reads_nothing (place c st); so = so }
reads_entries places c st now past (e ∷ es) each room may so =
    let come = comes_so places st.standings st.faults now past e so may.0 in
    let more = reads_entries places c (put st e) (e ∷ now) past es each.1 (room_left st e es room each.0) may.1
    (so_put places st now past e so each.0 come) in
    record {
      reads = reads_both (place c st) (place c (put st e)) (place c (put_all (put st e) es)) (entry_text e) (flat_map entry_text es)
          (reads_entry c st e each.0 (may_be st e es room each.0 come)) more.reads;
      so = more.so;
    }

-- the inputs of n ticks behind these entries, where these frames and faults were there
abbrev ticks_from : State → List EntryText → ℕ → List InputData
ticks_from st es n =
    inputs_with (st.frames ++ flat_map frames_of es) (faults_behind st.faults es) (words_behind st.words es) (truth_behind st.truth es) n

-- the state behind a group
ticked_all : (st : State) (es : List EntryText) (n : ℕ)
    → ticked_by (put_all st es) n ≡ fresh (st.done ++ ticks_from st es n) (standings_after st.standings (faults_behind st.faults es))
    (words_behind st.words es) (truth_behind st.truth es)
ticked_all st [] n = ap (λ (x : List FrameData). fresh (st.done ++ inputs_with x st.faults st.words st.truth n)
    (standings_after st.standings st.faults) st.words st.truth) (sym (append-nil st.frames))
ticked_all st (Remark line ∷ es) n = ticked_all (put st (Remark line)) es n
ticked_all st (FrameIn f ∷ es) n =
    let words = words_behind st.words es in
    let truth = truth_behind st.truth es in
    let faults = faults_behind st.faults es in
    ticked_all (put st (FrameIn f)) es n
    ∙ ap (λ (x : List FrameData). fresh (st.done ++ inputs_with x faults words truth n) (standings_after st.standings faults) words truth)
    (append_assoc st.frames (f ∷ []) (flat_map frames_of es))
ticked_all st (WordsIn w ∷ es) n = ticked_all (put st (WordsIn w)) es n
ticked_all st (TruthIn j w ∷ es) n = ticked_all (put st (TruthIn j w)) es n
ticked_all st (FaultIn side l ∷ es) n = ticked_all (put st (FaultIn side l)) es n

-- what entries leave as it is, and the faults behind them
record LeftBy (st last : State) (es : List EntryText) : Type 0 where
  done : last.done ≡ st.done
  standings : last.standings ≡ st.standings
  faults : last.faults ≡ faults_behind st.faults es

left_by : (st : State) (es : List EntryText) → LeftBy st (put_all st es) es
left_by st [] = record { done = refl; standings = refl; faults = refl }
left_by st (Remark line ∷ es) = let k = left_by (put st (Remark line)) es in
    record { done = k.done; standings = k.standings; faults = k.faults }
left_by st (FrameIn f ∷ es) = let k = left_by (put st (FrameIn f)) es in
    record { done = k.done; standings = k.standings; faults = k.faults }
left_by st (WordsIn w ∷ es) = let k = left_by (put st (WordsIn w)) es in
    record { done = k.done; standings = k.standings; faults = k.faults }
left_by st (TruthIn j w ∷ es) = let k = left_by (put st (TruthIn j w)) es in
    record { done = k.done; standings = k.standings; faults = k.faults }
left_by st (FaultIn side l ∷ es) = let k = left_by (put st (FaultIn side l)) es in
    record { done = k.done; standings = k.standings; faults = k.faults }

-- ---- a tick line

record IsTickLine (n : ℕ) (line : List ℕ) : Type 0 where
  is : line_of line ≡ Some (Tick n)
  one : NoFeed line
  short : length line ≤ LONGEST_LINE

tick_line_is : (n : ℕ) → 1 ≤ n → n ≤ MOST_TICKS → IsTickLine n (ticks_line n)
tick_line_is n least most = elim (cases_lt 1 n) [
  | inl many ↦
      let b : nat_le 2 n ≡ true = let h : 2 ≤ n = omega arith in search rules in
      let e : line_of (codes "t " ++ decimal n) ≡ Some (Tick n) = rw (number_of-decimal n least most, b) refl in
      let few : length (decimal n) ≤ 6 = length-decimal-le 6 n (omega arith) (omega arith) (omega arith) in
      subst (IsTickLine n) (sym (many_ticks n (omega arith)))
      (record { is = e; one = (refl, (refl, decimal_has_no_feed n most)); short = omega (arith, few) })
  | inr one ↦
      let e : 1 ≡ n = omega arith in
      subst (λ (x : ℕ). IsTickLine x (ticks_line x)) e (record { is = refl; one = (refl, tt); short = omega arith })
]

reads_ticks : (c : Settings) (st : State) (n : ℕ) → 1 ≤ n → n ≤ MOST_TICKS → length st.done + n ≤ c.ticks
    → Reads (place c st) (line_text (ticks_line n)) (place c (ticked_by st n))
reads_ticks c st n least most room =
    let t = tick_line_is n least most in
    let a : nat_lt c.ticks (length st.done + n) ≡ false = search rules in
    reads_line (place c st) (place c (ticked_by st n)) (ticks_line n) (Tick n) t.is (λ k. rw a refl) t.one t.short

-- ---- groups

length-with : (frames : List FrameData) (faults : FaultData) (words : WireWords) (truth : List ℕ) (n : ℕ) → 1 ≤ n
    → length (inputs_with frames faults words truth n) ≡ n
length-with frames faults words truth n least =
    let e = length-replicate {A = InputData} (n - 1) (record { frames = []; words = words; truth = truth; faults = no_faults }) in
    omega (arith, e)

fresh_room : (done : List InputData) (s : Standings) (words : WireWords) (truth : List ℕ) (g : Group) → IsGroup g
    → Room (fresh done s words truth) g.entries
fresh_room done s words truth g is = record {
  few = omega (arith, is.few);
  frames = omega (arith, is.few_frames);
  words = omega (arith, is.words_once);
  truth = λ j least. let e = ap told (all_false SOURCES (j - 1)) in omega (arith, e, is.truth_once j least);
}

-- behind a group
record AfterGroup (places : List Bool) (past : List EntryText) (c : Settings) (done : List InputData) (s : Standings) (words : WireWords)
    (truth : List ℕ) (g : Group) : Type 0 where
  reads : Reads (place c (fresh done s words truth)) (group_text g)
      (place c (fresh (done ++ ticks_from (fresh done s words truth) g.entries g.ticks)
      (standings_after s (faults_behind no_faults g.entries)) (words_behind words g.entries) (truth_behind truth g.entries)))
  so : BothAre places (standings_after s (faults_behind no_faults g.entries)) no_faults [] (put_before past g.entries)

reads_group : (places : List Bool) (past : List EntryText) (c : Settings) (done : List InputData) (s : Standings) (words : WireWords)
    (truth : List ℕ) (g : Group) → IsGroup g → AllMayStand places [] past g.entries → BothAre places s no_faults [] past
    → length done + g.ticks ≤ c.ticks → AfterGroup places past c done s words truth g
reads_group places past c done s words truth g is may so room =
    let st = fresh done s words truth in
    let behind = put_all st g.entries in
    let left = left_by st g.entries in
    let same = ap length left.done in
    let one = reads_entries places c st [] past g.entries is.entries (fresh_room done s words truth g is) may so in
    let two = reads_ticks c behind g.ticks is.some_tick is.most (omega (arith, same, room)) in
    let after = both_after places behind.standings behind.faults (put_before [] g.entries) past one.so in
    record {
      reads = reads_as (reads_both (place c st) (place c behind) (place c (ticked_by behind g.ticks)) (flat_map entry_text g.entries)
          (line_text (ticks_line g.ticks)) one.reads two)
          refl (ap (place c) (ticked_all st g.entries g.ticks));
      so = subst (λ (x : Standings). BothAre places (standings_after x (faults_behind no_faults g.entries)) no_faults []
          (put_before past g.entries)) left.standings
          (subst (λ (x : FaultData). BothAre places (standings_after behind.standings x) no_faults []
          (put_before past g.entries)) left.faults
          (subst (λ xs. BothAre places (standings_after behind.standings behind.faults) no_faults [] xs)
          (sym (put_before-append [] past g.entries)) after));
    }

record AfterGroups (c : Settings) (done : List InputData) (s : Standings) (words : WireWords) (truth : List ℕ) (gs : List Group)
    : Type 0 where
  standings' : Standings
  words' : WireWords
  truth' : List ℕ
  reads : Reads (place c (fresh done s words truth)) (flat_map group_text gs)
      (place c (fresh (done ++ inputs_of words truth gs) standings' words' truth'))

reads_groups : (places : List Bool) (past : List EntryText) (c : Settings) (done : List InputData) (s : Standings) (words : WireWords)
    (truth : List ℕ) (gs : List Group) → AllByRecursion IsGroup gs → GroupsMayStand places past gs → BothAre places s no_faults [] past
    → length done + length (inputs_of words truth gs) ≤ c.ticks → AfterGroups c done s words truth gs
reads_groups places past c done s words truth [] each may so room = record {
  standings' = s;
  words' = words;
  truth' = truth;
  reads = reads_as (reads_nothing (place c (fresh done s words truth))) refl
      (ap (λ (x : List InputData). place c (fresh x s words truth)) (sym (append-nil done)));
}
reads_groups places past c done s words truth (g ∷ gs) each may so room =
    let w = words_behind words g.entries in
    let t = truth_behind truth g.entries in
    let s' = standings_after s (faults_behind no_faults g.entries) in
    let new = ticks_from (fresh done s words truth) g.entries g.ticks in
    let some = length-with (flat_map frames_of g.entries) (faults_behind no_faults g.entries) w t g.ticks each.0.some_tick in
    let all = length-append new (inputs_of w t gs) in
    let grown = length-append done new in
    let one = reads_group places past c done s words truth g each.0 may.0 so (omega (arith, some, all, room)) in
    let more = reads_groups places (put_before past g.entries) c (done ++ new) s' w t gs each.1 may.1 one.so
    (omega (arith, some, all, grown, room)) in
    record {
      standings' = more.standings';
      words' = more.words';
      truth' = more.truth';
      reads = reads_as (reads_both (place c (fresh done s words truth)) (place c (fresh (done ++ new) s' w t)) _ (group_text g)
          (flat_map group_text gs) one.reads more.reads) refl
          (ap (λ (x : List InputData). place c (fresh x more.standings' more.words' more.truth')) (append_assoc done new
          (inputs_of w t gs)));
    }

-- ---- remarks behind the last tick line, and the end

abbrev noted : State → ℕ → State
noted st n = record st { others = n }

reads_remarks : (c : Settings) (st : State) (remarks : List (List ℕ)) (n : ℕ) → AllByRecursion IsRemark remarks
    → n + length remarks ≤ MOST_LINES
    → (m : ℕ) × Reads (place c (noted st n)) (flat_map line_text remarks) (place c (noted st m))
reads_remarks c st [] n each room = (n, reads_nothing (place c (noted st n)))
reads_remarks c st (line ∷ remarks) n each room =
    let more = reads_remarks c st remarks (n + 1) each.1 (omega arith) in
    let one = reads_entry c (noted st n) (Remark line) each.0 (record { few = omega arith; fits = tt }) in (
      more.0,
      reads_both (place c (noted st n)) (place c (noted st (n + 1))) (place c (noted st more.0)) (line_text line)
          (flat_map line_text remarks) one more.1,
    )

end_is : (c : Settings) (st : State) (n : ℕ) → st.waiting ≡ false → judge_line (place c st) n (codes "e") ≡ Done
unfolding judge_line
end_is c st n still = rw still refl

ends_so : (c : Settings) (st : State) (n used : ℕ) (after : List ℕ) → st.waiting ≡ false → IsAfter after
    → outcome (finished (take_bytes (InLine (place c st) n used []) (codes "e" ++ after))) ≡ Ok (so_far c st.done)
ends_so c st n used [] still end = rw (end_is c st n still) refl
ends_so c st n used (b ∷ after) still end =
    let line = whole_line (place c st) n used (codes "e") after (refl, tt) (omega arith) in
    let done = ap (λ j. take_bytes (line_ends (place c st) j n (used + length (codes "e") + 1)) after) (end_is c st n still) in
    ap (λ (x : ℕ). outcome (finished (take_bytes (InLine (place c st) n used []) (codes "e" ++ x ∷ after)))) end
    ∙ ap (λ r. outcome (finished r)) (line ∙ done ∙ ended_on (so_far c st.done) (used + length (codes "e") + 1) after)

-- ---- the head

not_mark : (line : List ℕ) → line ≢ codes "%%" → bytes_eq line (codes "%%") ≡ false
not_mark line other = elim (cases_Bool (bytes_eq line (codes "%%"))) [
  | inl is ↦ absurd (other ((bytes_eq-Decides line (codes "%%")).0 is))
  | inr is ↦ is
]

heads_all : (before : List ℕ) (head : List (List ℕ)) → AllByRecursion IsHeadLine head
    → length before + length (flat_map line_text head) < HEAD_TOO_LONG
    → Heads before (flat_map line_text head)
heads_all before [] each few = heads_nothing before
heads_all before (line ∷ head) each few =
    let all = length-append (line_text line) (flat_map line_text head) in
    let one = length-append line (10 ∷ []) in
    let grown = length-append before (line_text line) in
    heads_both before (line_text line) (flat_map line_text head)
    (heads_line before line each.0.one (not_mark line each.0.other) (omega (arith, all, one, few)))
    (heads_all (before ++ line_text line) head each.1 (omega (arith, all, grown, few)))

script_is : (s : ScriptData) (inputs : List InputData) → s.inputs ≡ inputs → s.steps ≡ [] → so_far s.config inputs ≡ s
script_is s inputs is none = ap (λ (x : List InputData). so_far s.config x) (sym is) ∙ ap (λ steps. record s { steps = steps }) (sym none)

body_is : (places : List Bool) (s : ScriptData) (groups : List Group) (remarks : List (List ℕ)) (after : List ℕ) (n used : ℕ)
    → AllByRecursion IsGroup groups → GroupsMayStand places [] groups → AllByRecursion IsRemark remarks
    → length remarks ≤ MOST_LINES → IsAfter after → length s.inputs ≤ s.config.ticks
    → s.inputs ≡ inputs_of (record { a = 0; b = 0 }) (replicate SOURCES 0) groups → s.steps ≡ []
    → outcome (finished (take_bytes
    (InLine (place s.config (fresh [] (all_stand places) (record { a = 0; b = 0 }) (replicate SOURCES 0))) n used [])
    (body_of groups remarks after))) ≡ Ok s
body_is places s groups remarks after n used each may noted_each few end room is none =
    let c = s.config in
    let zero_words : WireWords = record { a = 0; b = 0 } in
    let inputs = inputs_of zero_words (replicate SOURCES 0) groups in
    let long = ap length is in
    let g = reads_groups places [] c [] (all_stand places) zero_words (replicate SOURCES 0) groups each may (both_start places)
    (omega (arith, long, room)) in
    let st = fresh inputs g.standings' g.words' g.truth' in
    let r = reads_remarks c st remarks 0 noted_each (omega (arith, few)) in
    let one = g.reads.from n used (flat_map line_text remarks ++ (codes "e" ++ after)) in
    let two = r.1.from one.0 (used + length (flat_map group_text groups)) (codes "e" ++ after) in
    let three = ends_so c (noted st r.0) two.0
    (used + length (flat_map group_text groups) + length (flat_map line_text remarks)) after refl end in
    ap (λ x. outcome (finished x)) (one.1 ∙ two.1) ∙ three ∙ ap Ok (script_is s inputs is none)

-- what is spelled is read
pub spelled_is_read : (places : List Bool) (text : List ℕ) (s : ScriptData) → IsSpelled places text s → MeansScript Replay places text s
spelled_is_read places text s is =
    let body = body_of is.groups is.remarks is.after in
    let h = heads_all [] is.head is.head_lines (omega (arith, is.head_few)) in
    let one = h.from places 1 (codes "%%\n" ++ body) in
    let two = head_ends places (flat_map line_text is.head) body s.config one.0 (omega (arith, is.head_few)) is.config in
    let three = body_is places s is.groups is.remarks is.after (one.0 + 1)
    (length (flat_map line_text is.head) + 3) is.group_lines is.fault_lines is.remark_lines is.few_remarks is.end is.few is.inputs
    is.steps in
    ap (λ (x : List ℕ). outcome (finished (take_bytes (InHead Replay places [] [] 1) x))) is.spelling
    ∙ ap (λ x. outcome (finished x)) (one.1 ∙ two) ∙ three
