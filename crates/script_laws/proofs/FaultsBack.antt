-- The faults of a tick are read as they were written.
use Rattle.std.proofs.Common.{◌≡◌, ◌<◌, ◌≤◌, ◌+◌, ◌/◌, ◌%◌, ◌^◌, ◌++◌, ◌==◌, List, [], ◌∷◌, ℕ, length, refl, sym, ap, ◌∙◌, subst, arith, true, false, Bool, rules, nat_lt, get_or, decimal, if◌then◌else◌, Option, Some, None, IfSome, inl, inr}
use Rattle.std.specs.Prelude.{is_some}
use Rattle.std.specs.List.{flat_map}
use Rattle.std.proofs.lemmas.Bool.{cases_Bool, true≢false}
use Rattle.std.proofs.lemmas.Fmt.{length-decimal-le}
use Rattle.lift_base.specs.declared.limits.TheConstants.{LONGEST_LINE, MOST_LINES}
use Rattle.lift_base.specs.declared.forms.Form.TheVariants.{Replay}
use Rattle.lift_model.specs.Enums.{Side, A, B, Override, Keep, Follow, Force, Off, Full, Up, Down}
use Rattle.lift_model.specs.Records.{FaultData, SideFaultData}
use Rattle.can_frame.specs.Spelling.{hex4, hex16}
use Rattle.round_model.specs.Turns.{is_keep}
use Rattle.script_model.specs.declared.Line.TheVariants.{Entry}
use Rattle.script_model.specs.declared.Entry.TheVariants.{OfSide}
use Rattle.script_model.specs.declared.sides.SideLine.{SideLine}
use Rattle.script_model.specs.declared.sides.SideLine.TheVariants.{Exchange, Fail, Hold, Word, Value, Contactor, Give, Dismiss}
use Rattle.script_model.specs.declared.sides.Standing.{Standing}
use Rattle.script_model.specs.Faults.{no_fault, only_exchanged, no_faults, Standings, is_failed, is_left, may_stand, with_line, may_come, faults_with}
use Rattle.script_model.specs.Judging.{Place, waits}
use Rattle.script_model.specs.Meaning.{NoFeed}
use Rattle.script_model.specs.Text.{order_name, bare_text, text_with, side_line_text, line_if, line_of_some, order_line, lines_of_faults, given_text, side_text, faults_text}
use Rattle.script_model.specs.Valid.{IsSideLine, AreFaults, MayHave, MayHaveBoth}
use Rattle.script_model.proofs.FaultsKept.{left_to}
use Rattle.script_model.proofs.LinesBack.{line_of-side}
use Rattle.script_model.proofs.Numbers.{decimal_has_no_feed}
use Rattle.script_laws.proofs.Back.{Reads, reads_nothing, reads_both, reads_line, reads_as, glyph_is_no_feed, no_feed_both}

-- ---- one line

word_has_no_feed : (w : ℕ) → NoFeed (hex4 w)
word_has_no_feed w = (glyph_is_no_feed _, (glyph_is_no_feed _, (glyph_is_no_feed _, (glyph_is_no_feed _, tt))))

long_word_has_no_feed : (w : ℕ) → NoFeed (hex16 w)
unfolding hex16
long_word_has_no_feed w =
    let a = w / 65536 / 65536 / 65536 in
    let b = w / 65536 / 65536 % 65536 in
    let c = w / 65536 % 65536 in
    let d = w % 65536 in
    no_feed_both (hex4 a) (hex4 b ++ (hex4 c ++ hex4 d)) (word_has_no_feed a)
    (no_feed_both (hex4 b) (hex4 c ++ hex4 d) (word_has_no_feed b)
    (no_feed_both (hex4 c) (hex4 d) (word_has_no_feed c) (word_has_no_feed d)))

length-hex16 : (w : ℕ) → length (hex16 w) ≡ 16
unfolding hex16
length-hex16 w = refl

name_has_no_feed : (order : Override) → NoFeed (order_name order)
name_has_no_feed Keep = tt
name_has_no_feed Follow = (refl, (refl, (refl, (refl, (refl, (refl, tt))))))
name_has_no_feed (Force Off) = (refl, (refl, (refl, tt)))
name_has_no_feed (Force Full) = (refl, (refl, (refl, (refl, tt))))
name_has_no_feed (Force Up) = (refl, (refl, tt))
name_has_no_feed (Force Down) = (refl, (refl, (refl, (refl, tt))))

name_is_short : (order : Override) → length (order_name order) ≤ 6
name_is_short Keep = omega arith
name_is_short Follow = omega arith
name_is_short (Force Off) = omega arith
name_is_short (Force Full) = omega arith
name_is_short (Force Up) = omega arith
name_is_short (Force Down) = omega arith

-- a line has no feed, and is short
pub record IsLine (text : List ℕ) : Type 0 where
  pub one : NoFeed text
  pub short : length text ≤ LONGEST_LINE

bare_is_line : (c : ℕ) (side : Side) → (c == 10) ≡ false → IsLine (bare_text c side)
bare_is_line c A is = record { one = (is, (refl, (refl, tt))); short = omega arith }
bare_is_line c B is = record { one = (is, (refl, (refl, tt))); short = omega arith }

with_is_line : (c : ℕ) (side : Side) (part : List ℕ) → (c == 10) ≡ false → NoFeed part → length part ≤ 16 → IsLine (text_with c side part)
with_is_line c A part is none few = record { one = (is, (refl, (refl, (refl, none)))); short = omega arith }
with_is_line c B part is none few = record { one = (is, (refl, (refl, (refl, none)))); short = omega arith }

pub side_line_is_line : (side : Side) (l : SideLine) → IsSideLine l → IsLine (side_line_text side l)
side_line_is_line side (Word w) is = with_is_line 112 side (hex16 w) refl (long_word_has_no_feed w) (omega (arith, length-hex16 w))
side_line_is_line side (Value w) is = with_is_line 109 side (hex16 w) refl (long_word_has_no_feed w) (omega (arith, length-hex16 w))
side_line_is_line side (Contactor order) is =
    with_is_line 99 side (order_name order) refl (name_has_no_feed order) (omega (arith, name_is_short order))
side_line_is_line side (Give i) is =
    with_is_line 103 side (decimal i) refl (decimal_has_no_feed i (omega (arith, is)))
    (omega (arith, length-decimal-le 6 i (omega (arith, is)) (omega arith) (omega (arith, is))))
side_line_is_line side l is = bare_is_line _ side refl

-- a line that may come
pub reads_side_line : (p : Place) (side : Side) (l : SideLine) → p.form ≡ Replay → p.others < MOST_LINES → IsSideLine l
    → may_come p.standings p.faults side l ≡ true
    → Reads p (side_line_text side l ++ 10 ∷ []) (record (waits p) { faults = faults_with p.faults side l })
reads_side_line p side l form room fits may =
    let few : nat_lt p.others MOST_LINES ≡ true = search rules in
    let is = side_line_is_line side l fits in
    reads_line p (record (waits p) { faults = faults_with p.faults side l }) (side_line_text side l) (Entry (OfSide side l))
    (line_of-side side l fits) (λ n. rw (few, form, may) refl) is.one is.short

-- ---- the lines of one side

abbrev on_side : Side → FaultData → SideFaultData → FaultData
on_side A f x = record f { a = x }
on_side B f x = record f { b = x }

abbrev stands_on : Side → Standings → Standing
stands_on A s = s.a
stands_on B s = s.b

abbrev gift_beside : Side → FaultData → Option ℕ
gift_beside A f = f.b.give
gift_beside B f = f.a.give

may_on : (side : Side) (s : Standings) (f : FaultData) (x : SideFaultData) (l : SideLine)
    → may_stand s.left (gift_beside side f) (stands_on side s) x l ≡ true → may_come s (on_side side f x) side l ≡ true
may_on A s f x l may = may
may_on B s f x l may = may

with_on : (side : Side) (f : FaultData) (x x' : SideFaultData) (l : SideLine) → with_line x l ≡ x'
    → faults_with (on_side side f x) side l ≡ on_side side f x'
with_on A f x x' l is = ap (λ (y : SideFaultData). record f { a = y }) is
with_on B f x x' l is = ap (λ (y : SideFaultData). record f { b = y }) is

-- a line that may be given leads a side's faults from x to x'
abbrev Leads : List Bool → Option ℕ → Standing → SideFaultData → Option SideLine → SideFaultData → Type 0
Leads left other s x None x' = x ≡ x'
Leads left other s x (Some l) x' = IsSideLine l × (may_stand left other s x l ≡ true) × (with_line x l ≡ x')

abbrev LeadAll : List Bool → Option ℕ → Standing → SideFaultData → List (Option SideLine) → SideFaultData → Type 0
LeadAll left other s x [] x' = x ≡ x'
LeadAll left other s x (o ∷ os) x' = (y : SideFaultData) × Leads left other s x o y × LeadAll left other s y os x'

-- behind these lines
record Behind (p : Place) (text : List ℕ) (faults : FaultData) (most : ℕ) : Type 0 where
  waiting : Bool
  others : ℕ
  few : others ≤ most
  reads : Reads p text (record p { faults = faults; waiting = waiting; others = others })

behind_given : (p : Place) (side : Side) (f : FaultData) (x x' : SideFaultData) (o : Option SideLine) → p.form ≡ Replay
    → p.others < MOST_LINES
    → p.faults ≡ on_side side f x → Leads p.standings.left (gift_beside side f) (stands_on side p.standings) x o x'
    → Behind p (given_text side o) (on_side side f x') (p.others + 1)
behind_given p side f x x' None form room at leads = record {
  waiting = p.waiting;
  others = p.others;
  few = omega arith;
  reads = reads_as (reads_nothing p) refl
      (ap (λ (y : FaultData). record p { faults = y }) (at ∙ ap (on_side side f) leads));
}
behind_given p side f x x' (Some l) form room at leads =
    let may : may_come p.standings p.faults side l ≡ true =
    subst (λ (y : FaultData). may_come p.standings y side l ≡ true) (sym at) (may_on side p.standings f x l leads.1) in
    let faults : faults_with p.faults side l ≡ on_side side f x' = ap (λ (y : FaultData). faults_with y side l) at
    ∙ with_on side f x x' l leads.2 in
    record {
      waiting = true;
      others = p.others + 1;
      few = omega arith;
      reads = reads_as (reads_side_line p side l form room leads.0 may) refl (ap (λ (y : FaultData). record
          (waits p) { faults = y }) faults);
    }

behind_lines : (os : List (Option SideLine)) (p : Place) (side : Side) (f : FaultData) (x x' : SideFaultData) → p.form ≡ Replay
    → p.others + length os ≤ MOST_LINES → p.faults ≡ on_side side f x
    → LeadAll p.standings.left (gift_beside side f) (stands_on side p.standings) x os x'
    → Behind p (flat_map (given_text side) os) (on_side side f x') (p.others + length os)
behind_lines [] p side f x x' form room at leads = record {
  waiting = p.waiting;
  others = p.others;
  few = omega arith;
  reads = reads_as (reads_nothing p) refl (ap (λ (y : FaultData). record p { faults = y }) (at ∙ ap (on_side side f) leads));
}
behind_lines (o ∷ os) p side f x x' form room at (y, first, others) =
    let one = behind_given p side f x y o form (omega (arith, room)) at first in
    let p' = record p { faults = on_side side f y; waiting = one.waiting; others = one.others } in
    let more = behind_lines os p' side f y x' form (omega (arith, room, one.few)) refl others in
    record {
      waiting = more.waiting;
      others = more.others;
      few = omega (arith, more.few, one.few);
      reads = reads_both p p' _ (given_text side o) (flat_map (given_text side) os) one.reads more.reads;
    }

-- ---- the faults of one side, in the order of writing

-- those of a side that is not exchanged
abbrev made : Bool → Bool → Bool → Option ℕ → Option ℕ → Option ℕ → Override → SideFaultData
made fail hold dismiss give publish command contactor = record {
  fail = fail;
  hold = hold;
  exchange = false;
  publish = publish;
  command = command;
  contactor = contactor;
  dismiss = dismiss;
  give = give;
}

module _ (left : List Bool) (other : Option ℕ) (s : Standing) where
  lead_fail : (b : Bool) → (b ≡ true → s.failed ≡ false)
      → Leads left other s no_fault (line_if b Fail) (made b false false None None None Keep)
  lead_fail false is = refl
  lead_fail true is = (tt, rw (is refl) refl, refl)

  lead_hold : (fail b : Bool) → (b ≡ true → (fail ≡ false) × (s.failed ≡ false))
      → Leads left other s (made fail false false None None None Keep) (line_if b Hold) (made fail b false None None None Keep)
  lead_hold fail false is = refl
  lead_hold fail true is = let at = is refl in (tt, rw (at.0, at.1) refl, refl)

  lead_dismiss : (fail hold b : Bool) → (b ≡ true → ((if fail then true else s.failed) ≡ true) × (s.holds ≡ true))
      → Leads left other s (made fail hold false None None None Keep) (line_if b Dismiss) (made fail hold b None None None Keep)
  lead_dismiss fail hold false is = refl
  lead_dismiss fail hold true is = let at = is refl in (tt, rw (at.0, at.1) refl, refl)

  may_give : (dismiss holds : Bool) → holds ≡ dismiss → (if dismiss then false else holds) ≡ false
  may_give true holds is = refl
  may_give false holds is = is

  lead_give : (fail hold dismiss : Bool) (g : Option ℕ) → IfSome g (λ i. i ≤ 254)
      → (is_some g ≡ true → ((if fail then true else s.failed) ≡ true) × (s.holds ≡ dismiss)) → IfSome g (λ i. is_left left other i ≡ true)
      → Leads left other s (made fail hold dismiss None None None Keep) (line_of_some Give g) (made fail hold dismiss g None None Keep)
  lead_give fail hold dismiss None fits is free = refl
  lead_give fail hold dismiss (Some i) fits is free =
      let at = is refl in (fits, rw (at.0, may_give dismiss s.holds at.1, free) refl, refl)

  lead_word : (fail hold dismiss : Bool) (g w : Option ℕ) → IfSome w (λ x. x < 2 ^ 64)
      → (is_some w ≡ true → (if fail then true else s.failed) ≡ true)
      → Leads left other s (made fail hold dismiss g None None Keep) (line_of_some Word w) (made fail hold dismiss g w None Keep)
  lead_word fail hold dismiss g None fits is = refl
  lead_word fail hold dismiss g (Some x) fits is = (fits, rw (is refl) refl, refl)

  lead_value : (fail hold dismiss : Bool) (g w v : Option ℕ) → IfSome v (λ x. x < 2 ^ 64)
      → (is_some v ≡ true → (if fail then true else s.failed) ≡ true)
      → Leads left other s (made fail hold dismiss g w None Keep) (line_of_some Value v) (made fail hold dismiss g w v Keep)
  lead_value fail hold dismiss g w None fits is = refl
  lead_value fail hold dismiss g w (Some x) fits is = (fits, rw (is refl) refl, refl)

  lead_order : (fail hold dismiss : Bool) (g w v : Option ℕ) (order : Override)
      → (is_keep order ≡ false → (if fail then true else s.failed) ≡ true)
      → Leads left other s (made fail hold dismiss g w v Keep) (order_line order) (made fail hold dismiss g w v order)
  lead_order fail hold dismiss g w v Keep is = refl
  lead_order fail hold dismiss g w v Follow is = (refl, rw (is refl) refl, refl)
  lead_order fail hold dismiss g w v (Force kind) is = (refl, rw (is refl) refl, refl)

  -- what is held in a tick does not fail in it
  not_failing : (f : SideFaultData) → MayHave s f → f.hold ≡ true → f.fail ≡ false
  not_failing f k held = elim (cases_Bool f.fail) [
    | inl fails ↦ absurd (true≢false (sym held ∙ (k.fails fails).1))
    | inr is_not ↦ is_not
  ]

  -- a side that is not exchanged has failed by a line of the tick or before it
  by_lines : (e fail failed : Bool) → e ≡ false → (if e then false else if fail then true else failed) ≡ true
      → (if fail then true else failed) ≡ true
  by_lines true fail failed same is = absurd (true≢false same)
  by_lines false fail failed same is = is

  -- a side that is exchanged has no other line
  lead_exchanged : s.failed ≡ true → LeadAll left other s no_fault (lines_of_faults only_exchanged) only_exchanged
  lead_exchanged failed = (
    only_exchanged,
    (tt, rw failed refl, refl),
    (
      only_exchanged,
      refl,
      (
        only_exchanged,
        refl,
        (only_exchanged, refl, (only_exchanged, refl, (only_exchanged, refl, (only_exchanged, refl, (only_exchanged, refl, refl))))),
      ),
    ),
  )

  lead_standing : (f : SideFaultData) → f.exchange ≡ false → MayHave s f → AreFaults f → IfSome f.give (λ i. is_left left other i ≡ true)
      → LeadAll left other s no_fault (lines_of_faults f) f
  lead_standing f same k fits free =
      let x = f.fail in
      let h = f.hold in
      let d = f.dismiss in
      let g = f.give in
      let w = f.publish in
      let v = f.command in
      let whole : made x h d g w v f.contactor ≡ f = ap (λ (b : Bool). record f { exchange = b }) (sym same) in
      let failed : is_failed s f ≡ true → (if x then true else s.failed) ≡ true = by_lines f.exchange x s.failed same in (
        no_fault,
        subst (λ b. Leads left other s no_fault (line_if b Exchange) no_fault) (sym same) refl,
        (
          made x false false None None None Keep,
          lead_fail x (λ is. (k.fails is).0),
          (
            made x h false None None None Keep,
            lead_hold x h (λ is. (not_failing f k is, k.holds is)),
            (
              made x h d None None None Keep,
              lead_dismiss x h d (λ is. let at = k.dismiss is in (failed at.0, at.1)),
              (
                made x h d g None None Keep,
                lead_give x h d g fits.give (λ is. let at = k.give is in (failed at.0, at.1)) free,
                (
                  made x h d g w None Keep,
                  lead_word x h d g w fits.publish (λ is. failed (k.publish is)),
                  (
                    made x h d g w v Keep,
                    lead_value x h d g w v fits.command (λ is. failed (k.command is)),
                    (made x h d g w v f.contactor, lead_order x h d g w v f.contactor (λ is. failed (k.contactor is)), whole),
                  ),
                ),
              ),
            ),
          ),
        ),
      )

  lead_all : (f : SideFaultData) → MayHave s f → AreFaults f → IfSome f.give (λ i. is_left left other i ≡ true)
      → LeadAll left other s no_fault (lines_of_faults f) f
  lead_all f k fits free = elim (cases_Bool f.exchange) [
    | inl is ↦
        let at = k.exchange is in
        subst (λ (x : SideFaultData). LeadAll left other s no_fault (lines_of_faults x) x) (sym at.1) (lead_exchanged at.0)
    | inr is_not ↦ lead_standing f is_not k fits free
  ]

-- ---- both sides

-- behind the lines of one side, which had no faults in the tick
after_side : (p : Place) (side : Side) (f : FaultData) (x : SideFaultData) → p.form ≡ Replay → p.others + 8 ≤ 64
    → p.faults ≡ on_side side f no_fault → AreFaults x → MayHave (stands_on side p.standings) x
    → IfSome x.give (λ i. is_left p.standings.left (gift_beside side f) i ≡ true)
    → Behind p (side_text side x) (on_side side f x) (p.others + 8)
unfolding side_text
after_side p side f x form room at fits k free =
    behind_lines (lines_of_faults x) p side f no_fault x form room at
    (lead_all p.standings.left (gift_beside side f) (stands_on side p.standings) x k fits free)

-- a place that is left to a side beside the other's gift is left to it where the other was given none so far
left_so_far : (left : List Bool) (give other : Option ℕ) → IfSome give (λ i. is_left left other i ≡ true)
    → IfSome give (λ i. is_left left None i ≡ true)
left_so_far left None other free = tt
left_so_far left (Some i) other free = let has : get_or left i false ≡ true = left_to left i other free in rw has refl

-- the faults of a tick
pub record AfterFaults (p : Place) (f : FaultData) : Type 0 where
  pub waiting : Bool
  pub others : ℕ
  pub reads : Reads p (faults_text f) (record p { faults = f; waiting = waiting; others = others })

pub after_faults : (p : Place) (f : FaultData) → p.form ≡ Replay → p.others + 16 ≤ MOST_LINES → p.faults ≡ no_faults
    → AreFaults f.a → AreFaults f.b → MayHaveBoth p.standings f → AfterFaults p f
after_faults p f form room none fits_a fits_b k =
    let a = after_side p A no_faults f.a form (omega (arith, room)) none fits_a k.a (left_so_far _ f.a.give f.b.give k.left_a) in
    let q = record p { faults = record no_faults { a = f.a }; waiting = a.waiting; others = a.others } in
    let b = after_side q B (record no_faults { a = f.a }) f.b form (omega (arith, room, a.few)) refl fits_b k.b k.left_b in
    record {
      waiting = b.waiting;
      others = b.others;
      reads = reads_both p q _ (side_text A f.a) (side_text B f.b) a.reads b.reads;
    }
