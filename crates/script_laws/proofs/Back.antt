-- The lines of a tick are read as they were written.
use Rattle.std.proofs.Common.{◌≡◌, ◌<◌, ◌≤◌, ◌+◌, ◌-◌, ◌*◌, ◌^◌, ◌++◌, ◌==◌, ◌&&◌, List, [], ◌∷◌, ℕ, suc, length, refl, sym, ap, ◌∙◌, arith, true, false, Bool, rules, nat_lt, append_assoc, append-nil, length-append, get_or, set, replicate, codes, subst}
use Rattle.std.specs.List.{AllByRecursion, flat_map}
use Rattle.std.specs.declared.option.Option.TheVariants.{Some}
use Rattle.std.proofs.lemmas.Grind.{common_steps}
use Rattle.std.proofs.Math.Seq.{set-append_seam}
use Rattle.lift_base.specs.declared.limits.TheConstants.{LONGEST_LINE, MOST_FRAMES, MOST_LINES}
use Rattle.lift_model.specs.Records.{FrameData, WireWords}
use Rattle.can_frame.specs.Spelling.{glyph, hex2, frame_text}
use Rattle.script_model.specs.declared.Line.{Line}
use Rattle.script_model.specs.declared.Line.TheVariants.{Entry}
use Rattle.script_model.specs.declared.Entry.TheVariants.{Frame, Wires, Truth}
use Rattle.script_model.specs.Lines.{line_of}
use Rattle.script_model.specs.Judging.{Place, is_simulation, judge_line, judged, More}
use Rattle.script_model.specs.Meaning.{NoFeed, InLine, take_bytes, line_ends}
use Rattle.script_model.specs.Text.{frames_text, wires_text, wires_part, truth_text, truth_part}
use Rattle.can_frame.specs.Frames.{IsFrameData}
use Rattle.script_model.proofs.LinesBack.{line_of-frame, line_of-wires, line_of-truth}
use Rattle.script_model.proofs.Bytes.{whole_line}

-- from one place to another the text is read, whatever stands behind it
pub record Reads (p : Place) (text : List ℕ) (p' : Place) : Type 0 where
  pub from : (n used : ℕ) (rest : List ℕ)
      → (n' : ℕ) × (take_bytes (InLine p n used []) (text ++ rest) ≡ take_bytes (InLine p' n' (used + length text) []) rest)

pub reads_nothing : (p : Place) → Reads p [] p
reads_nothing p = record {
  from = λ n used rest. let e : used ≡ used + 0 = omega arith in (n, ap (λ (u : ℕ). take_bytes (InLine p n u []) rest) e);
}

pub reads_both : (p p' p'' : Place) (a b : List ℕ) → Reads p a p' → Reads p' b p'' → Reads p (a ++ b) p''
reads_both p p' p'' a b first second = record {
  from = λ n used rest.
      let one = first.from n used (b ++ rest) in
      let two = second.from one.0 (used + length a) rest in
      let e : used + length a + length b ≡ used + length (a ++ b) = grind (arith, length-append a b) in (
        two.0,
        ap (take_bytes (InLine p n used [])) (append_assoc a b rest) ∙ one.1 ∙ two.1
            ∙ ap (λ (u : ℕ). take_bytes (InLine p'' two.0 u []) rest) e,
      );
}

line_goes_on : (p p' : Place) (n : ℕ) (text : List ℕ) (l : Line) → line_of text ≡ Some l → judged p n (Some l) ≡ More p'
    → judge_line p n text ≡ More p'
unfolding judge_line
line_goes_on p p' n text l is goes = ap (judged p n) is ∙ goes

-- a whole line that goes on
pub reads_line : (p p' : Place) (text : List ℕ) (l : Line) → line_of text ≡ Some l → ((n : ℕ) → judged p n (Some l) ≡ More p')
    → NoFeed text → length text ≤ LONGEST_LINE
    → Reads p (text ++ 10 ∷ []) p'
reads_line p p' text l is goes none few = record {
  from = λ n used rest.
      let e : used + length text + 1 ≡ used + length (text ++ 10 ∷ []) = grind (arith, length-append text (10 ∷ [])) in (
        n + 1,
        ap (take_bytes (InLine p n used [])) (append_assoc text (10 ∷ []) rest)
            ∙ whole_line p n used text rest none few
            ∙ ap (λ j. take_bytes (line_ends p j n (used + length text + 1)) rest) (line_goes_on p p' n text l is (goes n))
            ∙ ap (λ (u : ℕ). take_bytes (InLine p' (n + 1) u []) rest) e,
      );
}

-- the frames of a tick, behind others
pub record AfterFrames (p : Place) (fs : List FrameData) : Type 0 where
  pub waiting : Bool
  pub others : ℕ
  pub few : others ≤ p.others + length fs
  pub reads : Reads p (frames_text fs) (record p { frames = p.frames ++ fs; waiting = waiting; others = others })

pub glyph_is_no_feed : (d : ℕ) → (glyph d == 10) ≡ false
glyph_is_no_feed d = grind (arith, common_steps)

pub no_feed_both : (a b : List ℕ) → NoFeed a → NoFeed b → NoFeed (a ++ b)
no_feed_both [] b first second = second
no_feed_both (x ∷ a) b first second = (first.0, no_feed_both a b first.1 second)

pairs_have_no_feed : (bytes : List ℕ) → NoFeed (flat_map hex2 bytes)
pairs_have_no_feed [] = tt
pairs_have_no_feed (b ∷ bs) = (glyph_is_no_feed _, (glyph_is_no_feed _, pairs_have_no_feed bs))

length-pairs : (bytes : List ℕ) → length (flat_map hex2 bytes) ≡ 2 * length bytes
length-pairs [] = refl
length-pairs (b ∷ bs) = omega (arith, length-pairs bs)

pub frame_has_no_feed : (f : FrameData) → NoFeed (codes "f " ++ frame_text f)
frame_has_no_feed f = (refl, (refl, (glyph_is_no_feed _, (glyph_is_no_feed _, (glyph_is_no_feed _, (refl, pairs_have_no_feed f.bytes))))))

pub frame_is_short : (f : FrameData) → IsFrameData f → length (codes "f " ++ frame_text f) ≤ LONGEST_LINE
frame_is_short f is = omega (arith, length-pairs f.bytes, is.few)

pub reads_as : {p p' q : Place} {a b : List ℕ} → Reads p a p' → a ≡ b → p' ≡ q → Reads p b q
reads_as {p} {p'} {q} {a} {b} reads text place = subst (λ x. Reads p x q) text (subst (λ (x : Place). Reads p a x) place reads)

pub after_frames : (p : Place) (fs : List FrameData) → is_simulation p.form ≡ false → length p.frames + length fs ≤ MOST_FRAMES
    → p.others + length fs ≤ MOST_LINES
    → AllByRecursion IsFrameData fs → AfterFrames p fs
after_frames p [] form few room fits = record {
  waiting = p.waiting;
  others = p.others;
  few = omega arith;
  reads = reads_as (reads_nothing p) refl (ap (λ (x : List FrameData). record p { frames = x }) (sym (append-nil p.frames)));
}
after_frames p (f ∷ fs) form few room fits =
    let p' = record p { frames = p.frames ++ f ∷ []; waiting = true; others = p.others + 1 } in
    let grown : length (p.frames ++ f ∷ []) ≡ length p.frames + 1 = simp length-append in
    let more = after_frames p' fs form (omega arith) (omega arith) fits.1 in
    let a : nat_lt p.others MOST_LINES ≡ true = let h : p.others < MOST_LINES = omega arith in search rules in
    let b : nat_lt (length p.frames) MOST_FRAMES ≡ true = let h : length p.frames < MOST_FRAMES = omega arith in search rules in
    let one = reads_line p p' (codes "f " ++ frame_text f) (Entry (Frame f)) (line_of-frame f fits.0) (λ n. rw (a, b, form) refl)
    (frame_has_no_feed f) (frame_is_short f fits.0) in
    record {
      waiting = more.waiting;
      others = more.others;
      few = omega (arith, more.few);
      reads = reads_as (reads_both p p' _ _ (frames_text fs) one more.reads)
          (append_assoc (codes "f " ++ frame_text f) (10 ∷ []) (frames_text fs))
          (ap (λ (x : List FrameData). record p { frames = x; waiting = more.waiting; others = more.others })
          (append_assoc p.frames (f ∷ []) fs));
    }

-- the wires of a tick
pub record AfterWires (p : Place) (w : WireWords) : Type 0 where
  pub wires_given : Bool
  pub waiting : Bool
  pub others : ℕ
  pub few : others ≤ p.others + 1
  pub reads : Reads p (wires_part p.words w) (record p { words = w; wires_given = wires_given; waiting = waiting; others = others })

pub wires_has_no_feed : (w : WireWords) → NoFeed (wires_text w)
wires_has_no_feed w = (
  refl,
  (
    refl,
    (
      glyph_is_no_feed _,
      (
        glyph_is_no_feed _,
        (
          glyph_is_no_feed _,
          (
            glyph_is_no_feed _,
            (refl, (glyph_is_no_feed _, (glyph_is_no_feed _, (glyph_is_no_feed _, (glyph_is_no_feed _, tt))))),
          ),
        ),
      ),
    ),
  ),
)

same_words : (v w : WireWords) → ((v.a == w.a) && (v.b == w.b)) ≡ true → v ≡ w
same_words v w is =
    let a : v.a ≡ w.a = grind (arith, common_steps) in
    let b : v.b ≡ w.b = grind (arith, common_steps) in
    ap (λ (x : ℕ). record { a = x; b = v.b }) a ∙ ap (λ (y : ℕ). record { a = w.a; b = y }) b

wires_by : (p : Place) (w : WireWords) (same : Bool) → ((p.words.a == w.a) && (p.words.b == w.b)) ≡ same
    → p.wires_given ≡ false → p.others < MOST_LINES → w.a < 2 ^ 16 → w.b < 2 ^ 16 → AfterWires p w
wires_by p w true is fresh room fits_a fits_b = record {
  wires_given = p.wires_given;
  waiting = p.waiting;
  others = p.others;
  few = omega arith;
  reads = reads_as (reads_nothing p) (rw is refl) (ap (λ (x : WireWords). record p { words = x }) (same_words p.words w is));
}
wires_by p w false is fresh room fits_a fits_b =
    let p' = record p { words = w; wires_given = true; waiting = true; others = p.others + 1 } in
    let a : nat_lt p.others MOST_LINES ≡ true = search rules in
    record {
      wires_given = true;
      waiting = true;
      others = p.others + 1;
      few = omega arith;
      reads = reads_as (reads_line p p' (wires_text w) (Entry (Wires w.a w.b)) (line_of-wires w fits_a fits_b) (λ n. rw (a, fresh) refl)
          (wires_has_no_feed w) (omega arith)) (rw is refl) refl;
    }

pub after_wires : (p : Place) (w : WireWords)
    → p.wires_given ≡ false → p.others < MOST_LINES → w.a < 2 ^ 16 → w.b < 2 ^ 16 → AfterWires p w
after_wires p w fresh room fits_a fits_b = wires_by p w _ refl fresh room fits_a fits_b

-- the true words of a tick, from source j on
pub record AfterTruth (p q : Place) (text truth : List ℕ) (most : ℕ) : Type 0 where
  pub truth_given : List Bool
  pub waiting : Bool
  pub others : ℕ
  pub few : others ≤ most
  pub reads : Reads p text (record q { truth = truth; truth_given = truth_given; waiting = waiting; others = others })

-- a place with the words before source j told
abbrev pub telling : Place → List ℕ → List ℕ → List Bool → Bool → ℕ → Place
telling p done before given waiting others = record p {
  truth = done ++ before;
  truth_given =
      given ++ replicate (length before) false;
  waiting = waiting;
  others = others;
}

pub truth_has_no_feed : (j w : ℕ) → 1 ≤ j → NoFeed (truth_text j w)
truth_has_no_feed j w least = let h : (j + 48 == 10) ≡ false = grind (arith, common_steps) in
    (refl, (refl, (h, (refl, (glyph_is_no_feed _, (glyph_is_no_feed _, (glyph_is_no_feed _, (glyph_is_no_feed _, tt))))))))

same_word : (b w : ℕ) → (b == w) ≡ true → b ≡ w
same_word b w is = grind (arith, common_steps)

get_or_seam : {A : Type 0} (xs : List A) (y : A) (ys : List A) (d : A) → get_or (xs ++ y ∷ ys) (length xs) d ≡ y
get_or_seam [] y ys d = refl
get_or_seam (x ∷ xs) y ys d = get_or_seam xs y ys d

-- the place with one more word told is the place behind it
told : (p : Place) (done : List ℕ) (given : List Bool) (w : ℕ) (g : Bool) (before : List ℕ) (waiting : Bool) (others : ℕ)
    → telling p (done ++ w ∷ []) before (given ++ g ∷ []) waiting others
    ≡ record p {
      truth = done ++ w ∷ before;
      truth_given = given ++ g ∷ replicate (length before) false;
      waiting = waiting;
      others =
          others;
    }
told p done given w g before waiting others = rw (
  append_assoc done (w ∷ []) before,
  append_assoc given (g ∷ []) (replicate (length before) false),
) refl

pub reads_from : {p q p' : Place} {a : List ℕ} → Reads p a p' → p ≡ q → Reads q a p'
reads_from {p} {q} {p'} {a} reads place = subst (λ (x : Place). Reads x a p') place reads

truth_by : (p : Place) (done : List ℕ) (given : List Bool) (j b w : ℕ) (before words : List ℕ) (waiting : Bool) (others : ℕ) (same : Bool)
    → (b == w) ≡ same
    → j ≡ length done + 1 → length given ≡ length done → j ≤ 6 → others + suc (length words) ≤ MOST_LINES → w < 2 ^ 16
    → ((x : ℕ) (g : Bool) (waiting' : Bool) (others' : ℕ) → others' + length words ≤ MOST_LINES
    → AfterTruth (telling p (done ++ x ∷ []) before (given ++ g ∷ []) waiting' others') p (truth_part (j + 1) before words)
    ((done ++ x ∷ []) ++ words) (others' + length words))
    → AfterTruth (telling p done (b ∷ before) given waiting others) p (truth_part j (b ∷ before) (w ∷ words)) (done ++ w ∷ words)
    (others + suc (length words))
truth_by p done given j b w before words waiting others true is is_j long few room fit recur =
    let more = recur b false waiting others (omega arith) in
    let e : b ≡ w = same_word b w is in
    record {
      truth_given = more.truth_given;
      waiting = more.waiting;
      others = more.others;
      few = omega (arith, more.few);
      reads = reads_from (reads_as more.reads (rw is refl) (ap (λ (x : List ℕ).
          record p { truth = x; truth_given = more.truth_given; waiting = more.waiting; others = more.others })
          (append_assoc done (b ∷ []) words ∙ ap (λ (x : ℕ). done ++ x ∷ words) e)))
          (told p done given b false before waiting others);
    }
truth_by p done given j b w before words waiting others false is is_j long few room fit recur =
    let more = recur w true true (others + 1) (omega arith) in
    let a : nat_lt others MOST_LINES ≡ true = let h : others < MOST_LINES = omega arith in search rules in
    let at_done : j - 1 ≡ length done = omega arith in
    let at_given : j - 1 ≡ length given = omega arith in
    let fresh : get_or (given ++ false ∷ replicate (length before) false) (j - 1) false ≡ false =
    rw at_given (get_or_seam given false (replicate (length before) false) false) in
    let set_given : set (given ++ false ∷ replicate (length before) false) (j - 1) true
    ≡ given ++ true ∷ replicate (length before) false =
    rw at_given (set-append_seam given false (replicate (length before) false) true) in
    let set_done : set (done ++ b ∷ before) (j - 1) w ≡ done ++ w ∷ before = rw at_done (set-append_seam done b before w) in
    let one = reads_line (telling p done (b ∷ before) given waiting others)
    (record p {
      truth = done ++ w ∷ before;
      truth_given = given ++ true ∷ replicate (length before) false;
      waiting = true;
      others =
          others + 1;
    })
    (truth_text j w) (Entry (Truth j w)) (line_of-truth j w (omega arith) (omega arith) fit)
    (λ n. rw (a, fresh, set_given, set_done) refl) (truth_has_no_feed j w (omega arith)) (omega arith) in
    record {
      truth_given = more.truth_given;
      waiting = more.waiting;
      others = more.others;
      few = omega (arith, more.few);
      reads = reads_as (reads_both _ _ _ _ _ one (reads_from more.reads (told p done given w true before true (others + 1)))) (rw is refl)
          (ap (λ (x : List ℕ). record p { truth = x; truth_given = more.truth_given; waiting = more.waiting; others = more.others })
          (append_assoc done (w ∷ []) words));
    }

pub after_truth : (p : Place) (done : List ℕ) (given : List Bool) (j : ℕ) (before words : List ℕ) (waiting : Bool) (others : ℕ)
    → j ≡ length done + 1 → length given ≡ length done → length before ≡ length words → j + length words ≤ 7
    → others + length words ≤ MOST_LINES
    → AllByRecursion (λ x. x < 2 ^ 16) words
    → AfterTruth (telling p done before given waiting others) p (truth_part j before words) (done ++ words) (others + length words)
after_truth p done given j [] [] waiting others is_j long even few room fits = record {
  truth_given = given ++ [];
  waiting = waiting;
  others = others;
  few = omega arith;
  reads = reads_nothing _;
}
after_truth p done given j (b ∷ before) (w ∷ words) waiting others is_j long even few room fits =
    truth_by p done given j b w before words waiting others _ refl is_j long (omega arith) (omega arith) fits.0
    (λ x g waiting' others' room'.
    let grown : length (done ++ x ∷ []) ≡ length done + 1 = simp length-append in
    let longer : length (given ++ g ∷ []) ≡ length given + 1 = simp length-append in
    after_truth p (done ++ x ∷ []) (given ++ g ∷ []) (j + 1) before words waiting' others' (omega arith) (omega arith) (omega arith)
    (omega arith) room' fits.1)
after_truth p done given j [] (w ∷ words) waiting others is_j long even few room fits = absurd (omega arith)
after_truth p done given j (b ∷ before) [] waiting others is_j long even few room fits = absurd (omega arith)
