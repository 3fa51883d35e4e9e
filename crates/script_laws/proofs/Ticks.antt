-- The ticks of a script are read back.
use Rattle.lift_base.specs.declared.TheConstants.{SOURCES}
use Rattle.std.proofs.Common.{◌≡◌, ◌<◌, ◌≤◌, ◌+◌, ◌++◌, List, [], ◌∷◌, ℕ, length, refl, sym, ap, ◌∙◌, arith, false, Bool, rules, nat_lt, append_assoc, append-nil, length-append, replicate, codes}
use Rattle.std.specs.List.{AllByRecursion}
use Rattle.lift_model.specs.Records.{WireWords, Settings, InputData}
use Rattle.lift_base.specs.declared.forms.Form.TheVariants.{Replay}
use Rattle.script_model.specs.declared.Line.TheVariants.{Tick}
use Rattle.script_model.specs.Faults.{Standings, standings_after}
use Rattle.script_model.specs.Judging.{ScriptData, Place, between}
use Rattle.script_model.specs.Text.{frames_text, wires_part, truth_part, faults_text, tick_text, ticks_text}
use Rattle.script_model.specs.Valid.{IsInput, MayHaveBoth, MayFollow}
use Rattle.script_laws.proofs.Back.{Reads, reads_nothing, reads_both, reads_line, reads_as, reads_from, after_frames, after_wires, after_truth}
use Rattle.script_laws.proofs.FaultsBack.{after_faults}

-- a script of Form Replay so far
abbrev pub so_far : Settings → List InputData → ScriptData
so_far c done = record { config = c; inputs = done; steps = [] }

-- a place between two of its ticks
abbrev pub behind_tick : Settings → List InputData → Standings → WireWords → List ℕ → Place
behind_tick c done s words truth = between Replay (so_far c done) s words truth

-- behind the lines of a tick
abbrev pub behind : Settings → List InputData → Standings → InputData → Bool → List Bool → Bool → ℕ → Place
behind c done s i wires_given truth_given waiting others = record {
  form = Replay;
  script = so_far c done;
  frames = i.frames;
  faults = i.faults;
  wires_given = wires_given;
  truth_given = truth_given;
  waiting = waiting;
  others = others;
  standings = s;
  words = i.words;
  truth = i.truth;
}

pub after_t : (c : Settings) (done : List InputData) (s : Standings) (i : InputData) (wires_given : Bool) (truth_given : List Bool)
    (waiting : Bool) (others : ℕ) → length done < c.ticks
    → Reads (behind c done s i wires_given truth_given waiting others) (codes "t\n")
    (behind_tick c (done ++ i ∷ []) (standings_after s i.faults) i.words i.truth)
after_t c done s i wires_given truth_given waiting others room =
    let a : nat_lt c.ticks (length done + 1) ≡ false = let h : length done + 1 ≤ c.ticks = omega arith in search rules in
    reads_line (behind c done s i wires_given truth_given waiting others)
    (behind_tick c (done ++ i ∷ []) (standings_after s i.faults) i.words i.truth) (codes "t") (Tick 1) refl (λ n. rw a refl)
    (refl, tt) (omega arith)

pub after_tick : (c : Settings) (done : List InputData) (s : Standings) (words : WireWords) (truth : List ℕ) (i : InputData)
    → length done < c.ticks → length truth ≡ SOURCES → IsInput i → MayHaveBoth s i.faults
    → Reads (behind_tick c done s words truth) (tick_text words truth i)
    (behind_tick c (done ++ i ∷ []) (standings_after s i.faults) i.words i.truth)
after_tick c done s words truth i room five is may =
    let p = behind_tick c done s words truth in
    let f = after_frames p i.frames refl (omega (arith, is.few)) (omega (arith, is.few)) is.frames in
    let few : f.others ≤ 16 = omega (arith, f.few, is.few) in
    let p1 = record p { frames = i.frames; waiting = f.waiting; others = f.others } in
    let w = after_wires p1 i.words refl (omega arith) is.a is.b in
    let few' : w.others ≤ 17 = omega (arith, few, w.few) in
    let p2 = record p1 { words = i.words; wires_given = w.wires_given; waiting = w.waiting; others = w.others } in
    let t = after_truth p2 [] [] 1 truth i.truth w.waiting w.others refl refl (five ∙ sym is.sources) (omega (arith, is.sources))
    (omega (arith, is.sources, few')) is.truth in
    let few'' : t.others ≤ 23 = omega (arith, is.sources, few', t.few) in
    let p3 = record p2 { truth = i.truth; truth_given = t.truth_given; waiting = t.waiting; others = t.others } in
    let x = after_faults p3 i.faults refl (omega (arith, few'')) refl is.faults_a is.faults_b may in
    let l = after_t c done s i w.wires_given t.truth_given x.waiting x.others room in
    reads_both p p1 _ (frames_text i.frames) _ f.reads
    (reads_both p1 p2 _ (wires_part words i.words) _ w.reads
    (reads_both p2 p3 _ (truth_part 1 truth i.truth) _
    (reads_from t.reads (ap (λ (n : ℕ). record p2 { truth_given = replicate n false }) five))
    (reads_both p3 _ _ (faults_text i.faults) (codes "t\n") x.reads l)))

pub record AfterTicks (c : Settings) (done : List InputData) (s : Standings) (words : WireWords) (truth : List ℕ) (inputs : List InputData)
    : Type 0 where
  pub standings' : Standings
  pub words' : WireWords
  pub truth' : List ℕ
  pub reads : Reads (behind_tick c done s words truth) (ticks_text words truth inputs)
      (behind_tick c (done ++ inputs) standings' words' truth')

pub after_ticks : (c : Settings) (done : List InputData) (s : Standings) (words : WireWords) (truth : List ℕ) (inputs : List InputData)
    → length done + length inputs ≤ c.ticks → length truth ≡ SOURCES → AllByRecursion IsInput inputs → MayFollow s inputs
    → AfterTicks c done s words truth inputs
after_ticks c done s words truth [] room five fits may = record {
  standings' = s;
  words' = words;
  truth' = truth;
  reads = reads_as (reads_nothing (behind_tick c done s words truth)) refl
      (ap (λ (x : List InputData). behind_tick c x s words truth) (sym (append-nil done)));
}
after_ticks c done s words truth (i ∷ inputs) room five fits may =
    let grown : length (done ++ i ∷ []) ≡ length done + 1 = simp length-append in
    let t = standings_after s i.faults in
    let more = after_ticks c (done ++ i ∷ []) t i.words i.truth inputs (omega arith) fits.0.sources fits.1 may.1 in
    let one = after_tick c done s words truth i (omega arith) five fits.0 may.0 in
    record {
      standings' = more.standings';
      words' = more.words';
      truth' = more.truth';
      reads = reads_as (reads_both (behind_tick c done s words truth) (behind_tick c (done ++ i ∷ []) t i.words i.truth) _
          (tick_text words truth i) (ticks_text i.words i.truth inputs) one more.reads) refl
          (ap (λ (x : List InputData). behind_tick c x more.standings' more.words' more.truth') (append_assoc done (i ∷ []) inputs));
    }
