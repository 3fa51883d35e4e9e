-- The text of a log's script is read back.
use Rattle.std.proofs.Common.{ℕ, ◌≡◌, ◌≤◌, ◌+◌, ◌-◌, ◌++◌, ◌==◌, ◌&&◌, Bool, true, false, List, [], ◌∷◌, length, refl, sym, ap, ◌∙◌, subst, arith, rules, nat_lt, nat_le, append_assoc, append-nil, length-append, replicate, codes, decimal, Some}
use Rattle.std.specs.List.{AllByRecursion}
use Rattle.std.proofs.lemmas.Fmt.{length-decimal-le}
use Rattle.std.proofs.lemmas.List.{replicate_more, length-replicate}
use Rattle.std.proofs.lemmas.Grind.{common_steps}
use Rattle.lift_base.specs.declared.TheConstants.{SOURCES}
use Rattle.lift_model.specs.Records.{FrameData, WireWords, Settings, InputData, FaultData}
use Rattle.script_model.specs.declared.Line.TheVariants.{Tick}
use Rattle.lift_base.specs.declared.forms.Form.TheVariants.{Replay}
use Rattle.script_model.specs.Faults.{no_faults, all_stand, Standings, standings_after}
use Rattle.script_model.specs.Judging.{ScriptData, Place}
use Rattle.script_model.specs.Lines.{line_of}
use Rattle.script_model.specs.Meaning.{NoFeed, MeansScript}
use Rattle.script_model.specs.Text.{frames_text}
use Rattle.script_model.specs.Valid.{IsInput, IsReplay}
use Rattle.script_model.proofs.Numbers.{number_of-decimal, decimal_has_no_feed}
use Rattle.script_laws.specs.Spelling.{line_text, ticks_line}
use Rattle.script_laws.proofs.Back.{Reads, reads_nothing, reads_both, reads_line, reads_as, reads_from, after_frames, after_wires, no_feed_both}
use Rattle.script_laws.proofs.Ticks.{behind_tick, behind}
use Rattle.script_model.proofs.FaultsKept.{two_tests}
use Rattle.script_laws.proofs.LineForms.{many_ticks}
use Rattle.script_laws.proofs.HeadBack.{head_back}
use Rattle.script_laws.proofs.Whole.{reads_all}
use Rattle.can_log.specs.Scripts.{all_zero}
use Rattle.can_log.specs.RunsText.{is_quiet, lines_text, runs_text, log_text, IsHeard}

-- an input that only goes on behind this one
abbrev pub on : InputData → InputData
on i = record { frames = []; words = i.words; truth = i.truth; faults = no_faults }

-- a tick and those that only go on behind it
abbrev pub run : InputData → ℕ → List InputData
run i n = i ∷ replicate (n - 1) (on i)

line_says : (n : ℕ) (one : Bool) → (n == 1) ≡ one → 1 ≤ n → n ≤ 200000 → line_of (ticks_line n) ≡ Some (Tick n)
line_says n true is some most = let e : n ≡ 1 = grind (arith, common_steps) in
    let P : ℕ → Type 0 = λ k. line_of (ticks_line k) ≡ Some (Tick k) in subst P (sym e) refl
line_says n false is some most =
    let many : 2 ≤ n = let other : n ≡ 1 → ⊥ = λ e. grind (arith, common_steps) in omega (arith, other, some) in
    let t : nat_le 2 n ≡ true = search rules in
    rw (many_ticks n many) (rw (number_of-decimal n some most, t) refl)

line_has_no_feed : (n : ℕ) (one : Bool) → (n == 1) ≡ one → n ≤ 200000 → NoFeed (ticks_line n) × (length (ticks_line n) ≤ 200)
line_has_no_feed n true is most = rw is ((refl, tt), omega arith)
line_has_no_feed n false is most = rw is (
  no_feed_both (codes "t ") (decimal n) (refl, (refl, tt)) (decimal_has_no_feed n most),
  omega (arith, length-decimal-le 6 n (omega arith) (omega arith) (omega arith), length-append (codes "t ") (decimal n)),
)

-- the line of the ticks that wait for it
pub reads_ticks : (c : Settings) (done : List InputData) (s : Standings) (i : InputData) (wires_given : Bool) (truth_given : List Bool)
    (waiting : Bool) (others n : ℕ) → 1 ≤ n → length done + n ≤ c.ticks → c.ticks ≤ 200000
    → Reads (behind c done s i wires_given truth_given waiting others) (line_text (ticks_line n))
    (behind_tick c (done ++ run i n) (standings_after s i.faults) i.words i.truth)
reads_ticks c done s i wires_given truth_given waiting others n some room most =
    let a : nat_lt c.ticks (length done + n) ≡ false = search rules in
    let feed = line_has_no_feed n (n == 1) refl (omega arith) in
    reads_line (behind c done s i wires_given truth_given waiting others)
    (behind_tick c (done ++ run i n) (standings_after s i.faults) i.words i.truth) (ticks_line n) (Tick n)
    (line_says n (n == 1) refl some (omega arith)) (λ k. rw a refl) feed.0 feed.1

-- ---- the lines of a tick

-- behind the lines of a tick without true words and faults
pub record AfterLines (c : Settings) (done : List InputData) (s : Standings) (words : WireWords) (truth : List ℕ) (i : InputData) :
    Type 0 where
  pub wires_given : Bool
  pub truth_given : List Bool
  pub waiting : Bool
  pub others : ℕ
  pub reads : Reads (behind_tick c done s words truth) (lines_text words i) (behind c done s i wires_given truth_given waiting others)

-- an input with these true words and no faults is made of them
abbrev same_rest : InputData → List ℕ → InputData
same_rest i truth = record { frames = i.frames; words = i.words; truth = truth; faults = no_faults }

rest_is : (i : InputData) (truth : List ℕ) → i.truth ≡ truth → i.faults ≡ no_faults → same_rest i truth ≡ i
rest_is i truth same none = ap (λ (t : List ℕ). record i { truth = t; faults = no_faults }) (sym same)
    ∙ ap (λ (f : FaultData). record i { faults = f }) (sym none)

pub after_lines : (c : Settings) (done : List InputData) (s : Standings) (words : WireWords) (truth : List ℕ) (i : InputData)
    → IsInput i → i.truth ≡ truth → i.faults ≡ no_faults → AfterLines c done s words truth i
after_lines c done s words truth i is same none =
    let p = behind_tick c done s words truth in
    let f = after_frames p i.frames refl (omega (arith, is.few)) (omega (arith, is.few)) is.frames in
    let few : f.others ≤ 16 = omega (arith, f.few, is.few) in
    let p1 = record p { frames = i.frames; waiting = f.waiting; others = f.others } in
    let w = after_wires p1 i.words refl (omega arith) is.a is.b in
    record {
      wires_given = w.wires_given;
      truth_given = p.truth_given;
      waiting = w.waiting;
      others = w.others;
      reads = reads_as (reads_both p p1 _ (frames_text i.frames) _ f.reads w.reads) refl
          (ap (λ (x : InputData). behind c done s x w.wires_given p.truth_given w.waiting w.others) (rest_is i truth same none));
    }

-- ---- the runs

pub record AfterRuns (c : Settings) (p : Place) (text : List ℕ) (all : List InputData) : Type 0 where
  pub standings' : Standings
  pub words' : WireWords
  pub truth' : List ℕ
  pub reads : Reads p text (behind_tick c all standings' words' truth')

-- a quiet input only goes on
no_frames : (fs : List FrameData) → (length fs == 0) ≡ true → fs ≡ []
no_frames [] is = refl
no_frames (f ∷ fs) is = absurd (grind (arith, common_steps))

same_words : (v w : WireWords) → ((v.a == w.a) && (v.b == w.b)) ≡ true → w ≡ v
same_words v w is =
    let a : v.a ≡ w.a = grind (arith, common_steps) in
    let b : v.b ≡ w.b = grind (arith, common_steps) in
    ap (λ (x : ℕ). record { a = x; b = w.b }) (sym a) ∙ ap (λ (y : ℕ). record { a = v.a; b = y }) (sym b)

pub quiet_is : (before : WireWords) (truth : List ℕ) (q : InputData) → is_quiet before q ≡ true → q.truth ≡ truth → q.faults ≡ no_faults
    → q ≡ record { frames = []; words = before; truth = truth; faults = no_faults }
quiet_is before truth q quiet same none =
    let t = two_tests (length q.frames == 0) ((before.a == q.words.a) && (before.b == q.words.b)) quiet in
    sym (rest_is q truth same none)
    ∙ ap (λ (fs : List FrameData). record { frames = fs; words = q.words; truth = truth; faults = no_faults }) (no_frames q.frames t.0)
    ∙ ap (λ (w : WireWords). record { frames = []; words = w; truth = truth; faults = no_faults }) (same_words before q.words t.1)

-- a run that goes on one tick more
run_more : (done : List InputData) (i q : InputData) (n : ℕ) (rest : List InputData) → 1 ≤ n → q ≡ on i
    → (done ++ run i (n + 1)) ++ rest ≡ (done ++ run i n) ++ (q ∷ rest)
run_more done i q n rest some is =
    let e : n + 1 - 1 ≡ n - 1 + 1 = omega arith in
    let more : replicate (n + 1 - 1) (on i) ≡ replicate (n - 1) (on i) ++ on i ∷ [] =
    ap (λ (k : ℕ). replicate k (on i)) e ∙ sym (replicate_more (n - 1) (on i)) in
    ap (λ (xs : List InputData). (done ++ (i ∷ xs)) ++ rest) more
    ∙ ap (λ (xs : List InputData). xs ++ rest) (sym (append_assoc done (run i n) (on i ∷ [])))
    ∙ append_assoc (done ++ run i n) (on i ∷ []) rest
    ∙ ap (λ (x : InputData). (done ++ run i n) ++ (x ∷ rest)) (sym is)

runs_by : (c : Settings) (done : List InputData) (s : Standings) (i : InputData) (wires_given : Bool) (truth_given : List Bool)
    (waiting : Bool)
    (others n : ℕ) (q : InputData) (qs : List InputData) (quiet : Bool) → is_quiet i.words q ≡ quiet → 1 ≤ n
    → length done + n + (length qs + 1) ≤ c.ticks → c.ticks ≤ 200000 → IsInput q → q.truth ≡ i.truth → q.faults ≡ no_faults
    → (quiet ≡ true → AfterRuns c (behind c done s i wires_given truth_given waiting others) (runs_text i.words (n + 1) qs)
    ((done ++ run i (n + 1)) ++ qs))
    → ((wires' : Bool) (truth' : List Bool) (waiting' : Bool) (others' : ℕ)
    → AfterRuns c (behind c (done ++ run i n) (standings_after s i.faults) q wires' truth' waiting' others') (runs_text q.words 1 qs)
    (((done ++ run i n) ++ run q 1) ++ qs))
    → AfterRuns c (behind c done s i wires_given truth_given waiting others) (runs_text i.words n (q ∷ qs)) ((done ++ run i n) ++ (q ∷ qs))
runs_by c done s i wires_given truth_given waiting others n q qs true quiet some room most is same none going other =
    let more = going refl in
    let goes : q ≡ on i = quiet_is i.words i.truth q quiet same none in
    record {
      standings' = more.standings';
      words' = more.words';
      truth' = more.truth';
      reads = reads_as more.reads (rw quiet refl)
          (ap (λ (xs : List InputData). behind_tick c xs more.standings' more.words' more.truth') (run_more done i q n qs some goes));
    }
runs_by c done s i wires_given truth_given waiting others n q qs false quiet some room most is same none going other =
    let done' = done ++ run i n in
    let s' = standings_after s i.faults in
    let line = reads_ticks c done s i wires_given truth_given waiting others n some (omega (arith, room)) most in
    let lines = after_lines c done' s' i.words i.truth q is same none in
    let more = other lines.wires_given lines.truth_given lines.waiting lines.others in
    let some_line : (n == 0) ≡ false = grind (arith, common_steps) in
    record {
      standings' = more.standings';
      words' = more.words';
      truth' = more.truth';
      reads = reads_as
          (reads_both (behind c done s i wires_given truth_given waiting others) (behind_tick c done' s' i.words i.truth) _
          (line_text (ticks_line n)) (lines_text i.words q ++ runs_text q.words 1 qs) line
          (reads_both (behind_tick c done' s' i.words i.truth)
          (behind c done' s' q lines.wires_given lines.truth_given lines.waiting lines.others) _
          (lines_text i.words q) (runs_text q.words 1 qs) lines.reads more.reads))
          (rw (quiet, some_line) refl)
          (ap (λ (xs : List InputData). behind_tick c xs more.standings' more.words' more.truth') (append_assoc done' (q ∷ []) qs));
    }

pub after_runs : (c : Settings) (done : List InputData) (s : Standings) (i : InputData) (wires_given : Bool) (truth_given : List Bool)
    (waiting : Bool) (others n : ℕ) (truth : List ℕ) (inputs : List InputData) → i.truth ≡ truth → 1 ≤ n
    → length done + n + length inputs ≤ c.ticks
    → c.ticks ≤ 200000 → AllByRecursion IsInput inputs → AllByRecursion (λ q. (q.truth ≡ truth) × (q.faults ≡ no_faults)) inputs
    → AfterRuns c (behind c done s i wires_given truth_given waiting others) (runs_text i.words n inputs) ((done ++ run i n) ++ inputs)
after_runs c done s i wires_given truth_given waiting others n truth [] is_truth some room most fits heard =
    let some_line : (n == 0) ≡ false = grind (arith, common_steps) in
    record {
      standings' = standings_after s i.faults;
      words' = i.words;
      truth' = i.truth;
      reads = reads_as (reads_ticks c done s i wires_given truth_given waiting others n some (omega (arith, room)) most) (rw some_line refl)
          (ap (λ (xs : List InputData). behind_tick c xs (standings_after s i.faults) i.words i.truth)
          (sym (append-nil (done ++ run i n))));
    }
after_runs c done s i wires_given truth_given waiting others n truth (q ∷ qs) is_truth some room most (fit, fits) (hear, heard) =
    let grown : length (done ++ run i n) ≡ length done + n = grind (arith, length-append done (run i n), length-replicate (n - 1) (on i)) in
    runs_by c done s i wires_given truth_given waiting others n q qs (is_quiet i.words q) refl some (omega (arith, room)) most fit
    (hear.0 ∙ sym is_truth) hear.1
    (λ quiet. after_runs c done s i wires_given truth_given waiting others (n + 1) truth qs is_truth (omega arith) (omega (
      arith,
      room,
    )) most
    fits heard)
    (λ wires' truth' waiting' others'. after_runs c (done ++ run i n) (standings_after s i.faults) q wires' truth' waiting' others' 1
    truth qs
    hear.0 (omega arith) (omega (arith, room, grown)) most fits heard)

-- ---- the whole text

heard_of : (inputs : List InputData) → AllByRecursion IsHeard inputs
    → AllByRecursion (λ q. (q.truth ≡ replicate SOURCES 0) × (q.faults ≡ no_faults)) inputs
heard_of [] all = tt
heard_of (q ∷ qs) (one, all) = ((one.truth, one.faults), heard_of qs all)

from_start : (c : Settings) (s : Standings) (q : InputData) (qs : List InputData) (quiet : Bool) → is_quiet all_zero q ≡ quiet
    → length qs + 1 ≤ c.ticks → c.ticks ≤ 200000 → AllByRecursion IsInput (q ∷ qs) → AllByRecursion IsHeard (q ∷ qs)
    → AfterRuns c (behind_tick c [] s all_zero (replicate SOURCES 0)) (runs_text all_zero 0 (q ∷ qs)) (q ∷ qs)
from_start c s q qs true quiet room most fits heard =
    let goes = quiet_is all_zero (replicate SOURCES 0) q quiet heard.0.truth heard.0.faults in
    let more = after_runs c [] s q false (replicate SOURCES false) false 0 1 (replicate SOURCES 0) qs heard.0.truth (omega arith)
    (omega (arith, room)) most fits.1 (heard_of qs heard.1) in
    let words : q.words ≡ all_zero = ap (λ (x : InputData). x.words) goes in
    record {
      standings' = more.standings';
      words' = more.words';
      truth' = more.truth';
      reads = reads_from
          (reads_as more.reads (ap (λ (w : WireWords). runs_text w 1 qs) words ∙ sym (rw quiet refl)) refl)
          (ap (λ (x : InputData). behind c [] s x false (replicate SOURCES false) false 0) goes);
    }
from_start c s q qs false quiet room most fits heard =
    let lines = after_lines c [] s all_zero (replicate SOURCES 0) q fits.0 heard.0.truth heard.0.faults in
    let more = after_runs c [] s q lines.wires_given lines.truth_given lines.waiting lines.others 1 (replicate SOURCES 0) qs heard.0.truth
    (omega arith) (omega (arith, room)) most fits.1 (heard_of qs heard.1) in
    record {
      standings' = more.standings';
      words' = more.words';
      truth' = more.truth';
      reads = reads_as
          (reads_both (behind_tick c [] s all_zero (replicate SOURCES 0))
          (behind c [] s q lines.wires_given lines.truth_given lines.waiting lines.others) _
          (lines_text all_zero q) (runs_text q.words 1 qs) lines.reads more.reads)
          (sym (rw quiet refl)) refl;
    }

all_runs : (c : Settings) (s : Standings) (inputs : List InputData) → length inputs ≤ c.ticks → c.ticks ≤ 200000
    → AllByRecursion IsInput inputs → AllByRecursion IsHeard inputs
    → AfterRuns c (behind_tick c [] s all_zero (replicate SOURCES 0)) (runs_text all_zero 0 inputs) inputs
all_runs c s [] room most fits heard = record {
  standings' = s;
  words' = all_zero;
  truth' = replicate SOURCES 0;
  reads = reads_nothing (behind_tick c [] s all_zero (replicate SOURCES 0));
}
all_runs c s (q ∷ qs) room most fits heard = from_start c s q qs (is_quiet all_zero q) refl (omega (arith, room)) most fits heard

pub log_is_read : (places : List Bool) (s : ScriptData) → IsReplay places s → AllByRecursion IsHeard s.inputs
    → MeansScript Replay places (log_text s) s
unfolding log_text
log_is_read places s is heard =
    let r = all_runs s.config (all_stand places) s.inputs is.few is.config.ticks is.inputs heard in
    reads_all places s is (head_back s.config is.config) (runs_text all_zero 0 s.inputs) r.standings' r.words' r.truth' r.reads
