-- How the sides stand, by the lines that were read: a line may come in the reading exactly where it may stand by the lines before it.
use Rattle.std.proofs.Common.{◌≡◌, ◌≢◌, ◌++◌, ◌==◌, Bool, true, false, not, List, [], ◌∷◌, ℕ, zero, suc, arith, refl, sym, ap, ◌∙◌, subst, inl, inr, get_or, set, Option, None, Some}
use Rattle.std.specs.Prelude.{◌&&◌, ◌||◌, is_some, is_none}
use Rattle.std.specs.List.{list_any}
use Rattle.std.proofs.lemmas.Bool.{cases_Bool, true≢false, false≢true}
use Rattle.std.proofs.lemmas.Grind.{common_steps, flat_map-append}
use Rattle.std.proofs.lemmas.List.{get_or-set_other}
use Rattle.std.proofs.lemmas.List.Folds.{list_any-append}
use Rattle.lift_base.specs.declared.Side.{Side}
use Rattle.lift_base.specs.declared.Side.TheVariants.{A, B}
use Rattle.lift_model.specs.Records.{FaultData, SideFaultData}
use Rattle.round_model.specs.Giving.{is_place}
use Rattle.round_model.specs.Turns.{is_keep}
use Rattle.script_model.specs.declared.sides.SideLine.{SideLine}
use Rattle.script_model.specs.declared.sides.SideLine.TheVariants.{Exchange, Fail, Hold, Word, Value, Contactor, Give, Dismiss}
use Rattle.script_model.specs.declared.sides.Standing.{Standing}
use Rattle.script_model.specs.Faults.{no_fault, no_faults, Standings, all_stand, is_failed, is_holding, is_untouched, is_left, may_stand, with_line, may_come, left_by, stands_after, standings_after}
use Rattle.script_model.specs.Valid.{IsSideLine}
use Rattle.script_model.proofs.FaultsKept.{two_tests, not_true, none_given, holds_none, acting, not_new, untouched}
use Rattle.script_laws.specs.Spelling.{EntryText, FaultIn, IsEntry, line_on, lines_on, is_first, is_exchange, is_hold, is_word, is_value, is_order, is_gift, is_gift_of, failed_behind, holds_behind, may_stand_behind, gave, is_free, MayStand, AllMayStand, put_before, faults_by}

-- ---- lists

lines-append : (side : Side) (now past : List EntryText) → lines_on side (now ++ past) ≡ lines_on side now ++ lines_on side past
lines-append side now past = flat_map-append (line_on side) now past

-- ---- one side

-- how a side stands and its faults in the tick are those of its lines: those of the tick so far, and those of the ticks before
record SideIs (s : Standing) (f : SideFaultData) (now past : List SideLine) : Type 0 where
  before : s.failed ≡ failed_behind past
  failed : is_failed s f ≡ failed_behind (now ++ past)
  first : is_untouched f ≡ is_first now
  exchange : f.exchange ≡ list_any is_exchange now
  hold : f.hold ≡ list_any is_hold now
  publish : is_none f.publish ≡ not (list_any is_word now)
  command : is_none f.command ≡ not (list_any is_value now)
  contactor : is_keep f.contactor ≡ not (list_any is_order now)
  give : is_none f.give ≡ not (list_any is_gift now)
  holding : is_holding s f ≡ holds_behind (now ++ past)
  gift : (i : ℕ) → is_place i f.give ≡ list_any (is_gift_of i) now

-- a line of a side that has failed comes in no tick that exchanged it
not_exchanged : (s : Standing) (f : SideFaultData) (more : Bool) → (is_failed s f && more) ≡ true → f.exchange ≡ false
not_exchanged s f more may = not_new f.exchange _ (two_tests _ _ may).0

failed_more : (left : List Bool) (other : Option ℕ) (s : Standing) (f : SideFaultData) (l : SideLine) (now past : List SideLine)
    → may_stand left other s f l ≡ true → is_failed s f ≡ failed_behind (now ++ past)
    → is_failed s (with_line f l) ≡ failed_behind (l ∷ (now ++ past))
failed_more left other s f Exchange now past may e = refl
failed_more left other s f Fail now past may e = rw (acting s f may).exchanged refl
failed_more left other s f l now past may e = e

-- a fault that differs from none by this test
touched : (test : SideFaultData → Bool) (f : SideFaultData) → test f ≢ test no_fault → is_untouched f ≡ false
touched test f other = elim (cases_Bool (is_untouched f)) [
  | inl none ↦ absurd (other (ap test (untouched f none)))
  | inr is_not ↦ is_not
]

first_more : (left : List Bool) (other : Option ℕ) (s : Standing) (f : SideFaultData) (l : SideLine) (now : List SideLine)
    → may_stand left other s f l ≡ true → IsSideLine l → is_untouched (with_line f l) ≡ is_first (l ∷ now)
first_more left other s f Exchange now may is = touched (λ x. x.exchange) (record f { exchange = true }) true≢false
first_more left other s f Fail now may is = touched (λ x. x.fail) (record f { fail = true }) true≢false
first_more left other s f Hold now may is = touched (λ x. x.hold) (record f { hold = true }) true≢false
first_more left other s f (Word w) now may is = touched (λ x. is_some x.publish) (record f { publish = Some w }) true≢false
first_more left other s f (Value w) now may is = touched (λ x. is_some x.command) (record f { command = Some w }) true≢false
first_more left other s f (Contactor order) now may is =
    touched (λ x. is_keep x.contactor) (record f { contactor = order }) (λ e. false≢true (sym is ∙ e))
first_more left other s f (Give i) now may is = touched (λ x. is_some x.give) (record f { give = Some i }) true≢false
first_more left other s f Dismiss now may is = touched (λ x. x.dismiss) (record f { dismiss = true }) true≢false
first_more left other s f l now may is = absurd (false≢true may)

exchange_more : (f : SideFaultData) (l : SideLine) (now : List SideLine) → f.exchange ≡ list_any is_exchange now
    → (with_line f l).exchange ≡ list_any is_exchange (l ∷ now)
exchange_more f Exchange now e = refl
exchange_more f l now e = e

hold_more : (f : SideFaultData) (l : SideLine) (now : List SideLine) → f.hold ≡ list_any is_hold now
    → (with_line f l).hold ≡ list_any is_hold (l ∷ now)
hold_more f Hold now e = refl
hold_more f l now e = e

word_more : (f : SideFaultData) (l : SideLine) (now : List SideLine) → is_none f.publish ≡ not (list_any is_word now)
    → is_none (with_line f l).publish ≡ not (list_any is_word (l ∷ now))
word_more f (Word w) now e = refl
word_more f l now e = e

value_more : (f : SideFaultData) (l : SideLine) (now : List SideLine) → is_none f.command ≡ not (list_any is_value now)
    → is_none (with_line f l).command ≡ not (list_any is_value (l ∷ now))
value_more f (Value w) now e = refl
value_more f l now e = e

order_more : (f : SideFaultData) (l : SideLine) (now : List SideLine) → IsSideLine l → is_keep f.contactor ≡ not (list_any is_order now)
    → is_keep (with_line f l).contactor ≡ not (list_any is_order (l ∷ now))
order_more f (Contactor order) now is e = is
order_more f l now is e = e

give_more : (f : SideFaultData) (l : SideLine) (now : List SideLine) → is_none f.give ≡ not (list_any is_gift now)
    → is_none (with_line f l).give ≡ not (list_any is_gift (l ∷ now))
give_more f (Give i) now e = refl
give_more f l now e = e

holding_more : (left : List Bool) (other : Option ℕ) (s : Standing) (f : SideFaultData) (l : SideLine) (now past : List SideLine)
    → may_stand left other s f l ≡ true → is_holding s f ≡ holds_behind (now ++ past)
    → is_holding s (with_line f l) ≡ holds_behind (l ∷ (now ++ past))
holding_more left other s f Exchange now past may e = refl
holding_more left other s f (Give i) now past may e = rw (not_exchanged s f _ may) refl
holding_more left other s f Dismiss now past may e =
    let none = none_given f.give (two_tests _ _ (two_tests _ _ may).1).1 in rw (not_exchanged s f _ may, none) refl
holding_more left other s f l now past may e = e

or_none : (a b : Bool) → b ≡ false → a ≡ (a || b)
or_none true b e = refl
or_none false b e = sym e

no_gift : (give : Option ℕ) (i : ℕ) → is_some give ≡ false → is_place i give ≡ false
no_gift None i none = refl
no_gift (Some j) i none = absurd (true≢false none)

gift_more : (left : List Bool) (other : Option ℕ) (s : Standing) (f : SideFaultData) (l : SideLine) (now : List SideLine) (i : ℕ)
    → may_stand left other s f l ≡ true → is_place i f.give ≡ list_any (is_gift_of i) now
    → is_place i (with_line f l).give ≡ list_any (is_gift_of i) (l ∷ now)
gift_more left other s f (Give j) now i may e =
    let free = not_true (is_holding s f) (two_tests _ _ (two_tests _ _ may).1).0 in
    or_none (i == j) (list_any (is_gift_of i) now) (sym e ∙ no_gift f.give i (holds_none s f (not_exchanged s f _ may) free))
gift_more left other s f l now i may e = e

-- one more line
side_more : (left : List Bool) (other : Option ℕ) (s : Standing) (f : SideFaultData) (l : SideLine) (now past : List SideLine)
    → may_stand left other s f l ≡ true → IsSideLine l → SideIs s f now past → SideIs s (with_line f l) (l ∷ now) past
side_more left other s f l now past may is k = record {
  before = k.before;
  failed = failed_more left other s f l now past may k.failed;
  first = first_more left other s f l now may is;
  exchange = exchange_more f l now k.exchange;
  hold = hold_more f l now k.hold;
  publish = word_more f l now k.publish;
  command = value_more f l now k.command;
  contactor = order_more f l now is k.contactor;
  give = give_more f l now k.give;
  holding = holding_more left other s f l now past may k.holding;
  gift = λ i. gift_more left other s f l now i may (k.gift i);
}

if_free : (failed holding x y : Bool) → (failed ≡ true → holding ≡ false → x ≡ y)
    → (failed && (not holding && x)) ≡ (failed && (not holding && y))
if_free true true x y same = refl
if_free true false x y same = same refl refl
if_free false holding x y same = refl

-- the line may stand by the faults exactly where it may stand by the lines
side_same : (left : List Bool) (other : Option ℕ) (s : Standing) (f : SideFaultData) (l : SideLine) (now past : List SideLine)
    (free : ℕ → Bool) → SideIs s f now past
    → ((i : ℕ) → f.exchange ≡ false → is_holding s f ≡ false → is_left left other i ≡ free i)
    → may_stand left other s f l ≡ may_stand_behind free now past l
side_same left other s f Exchange now past free k places = rw (k.before, k.first) refl
side_same left other s f Fail now past free k places = rw (k.failed, k.hold, k.exchange) refl
side_same left other s f Hold now past free k places = rw (k.failed, k.hold, k.exchange) refl
side_same left other s f (Word w) now past free k places = rw (k.failed, k.publish) refl
side_same left other s f (Value w) now past free k places = rw (k.failed, k.command) refl
side_same left other s f (Contactor order) now past free k places = rw (k.failed, k.contactor) refl
side_same left other s f (Give i) now past free k places =
    if_free (is_failed s f) (is_holding s f) (is_left left other i) (free i) (λ failed. places i (not_new f.exchange _ failed))
    ∙ rw (k.failed, k.holding) refl
side_same left other s f Dismiss now past free k places = rw (k.failed, k.holding, k.give) refl
side_same left other s f l now past free k places = refl

-- ---- both sides

pub record BothAre (places : List Bool) (s : Standings) (f : FaultData) (now past : List EntryText) : Type 0 where
  a : SideIs s.a f.a (lines_on A now) (lines_on A past)
  b : SideIs s.b f.b (lines_on B now) (lines_on B past)
  left : (i : ℕ) → get_or s.left i false ≡ is_free places past i

-- a place is left to a side that holds nothing exactly where no line gave it away
free_for : (has past_a past_b mine others : Bool) → mine ≡ false
    → ((has && not (past_a || past_b)) && not others) ≡ (has && not ((mine || past_a) || (others || past_b)))
free_for has past_a past_b true others e = absurd (true≢false e)
free_for false past_a past_b false others e = refl
free_for true true past_b false others e = refl
free_for true false true false true e = refl
free_for true false true false false e = refl
free_for true false false false true e = refl
free_for true false false false false e = refl

free_too : (has past_a past_b mine others : Bool) → mine ≡ false
    → ((has && not (past_a || past_b)) && not others) ≡ (has && not ((others || past_a) || (mine || past_b)))
free_too has past_a past_b true others e = absurd (true≢false e)
free_too false past_a past_b false others e = refl
free_too true true past_b false true e = refl
free_too true true past_b false false e = refl
free_too true false true false true e = refl
free_too true false true false false e = refl
free_too true false false false true e = refl
free_too true false false false false e = refl

-- what was given in these ticks
given_in : (i : ℕ) (side : Side) (now past : List EntryText)
    → gave i side (now ++ past) ≡ (gave i side now || gave i side past)
given_in i side now past =
    ap (list_any (is_gift_of i)) (lines-append side now past) ∙ list_any-append (is_gift_of i) (lines_on side now) (lines_on side past)

free_a : (places : List Bool) (s : Standings) (f : FaultData) (now past : List EntryText) → BothAre places s f now past → (i : ℕ)
    → f.a.exchange ≡ false → is_holding s.a f.a ≡ false → is_left s.left f.b.give i ≡ is_free places (now ++ past) i
free_a places s f now past k i same free =
    let mine : gave i A now ≡ false = sym (k.a.gift i) ∙ no_gift f.a.give i (holds_none s.a f.a same free) in
    rw (k.left i, k.b.gift i, given_in i A now past, given_in i B now past)
    (free_for (get_or places i false) (gave i A past) (gave i B past) (gave i A now) (gave i B now) mine)

free_b : (places : List Bool) (s : Standings) (f : FaultData) (now past : List EntryText) → BothAre places s f now past → (i : ℕ)
    → f.b.exchange ≡ false → is_holding s.b f.b ≡ false → is_left s.left f.a.give i ≡ is_free places (now ++ past) i
free_b places s f now past k i same free =
    let mine : gave i B now ≡ false = sym (k.b.gift i) ∙ no_gift f.b.give i (holds_none s.b f.b same free) in
    rw (k.left i, k.a.gift i, given_in i A now past, given_in i B now past)
    (free_too (get_or places i false) (gave i A past) (gave i B past) (gave i B now) (gave i A now) mine)

-- a line may come exactly where it may stand
pub may_same : (places : List Bool) (s : Standings) (f : FaultData) (now past : List EntryText) (side : Side) (l : SideLine)
    → BothAre places s f now past
    → may_come s f side l ≡ may_stand_behind (is_free places (now ++ past)) (lines_on side now) (lines_on side past) l
may_same places s f now past A l k =
    side_same s.left f.b.give s.a f.a l (lines_on A now) (lines_on A past) (is_free places (now ++ past)) k.a (free_a places s f now past k)
may_same places s f now past B l k =
    side_same s.left f.a.give s.b f.b l (lines_on B now) (lines_on B past) (is_free places (now ++ past)) k.b (free_b places s f now past k)

-- what an entry asks of the faults so far
abbrev pub MayCome : Standings → FaultData → EntryText → Type 0
MayCome s f (FaultIn side l) = may_come s f side l ≡ true
MayCome s f e = Unit {0}

pub stands_so : (places : List Bool) (s : Standings) (f : FaultData) (now past : List EntryText) (e : EntryText)
    → BothAre places s f now past → MayCome s f e → MayStand places now past e
stands_so places s f now past (FaultIn side l) k may = sym (may_same places s f now past side l k) ∙ may
stands_so places s f now past e k may = tt

pub comes_so : (places : List Bool) (s : Standings) (f : FaultData) (now past : List EntryText) (e : EntryText)
    → BothAre places s f now past → MayStand places now past e → MayCome s f e
comes_so places s f now past (FaultIn side l) k may = may_same places s f now past side l k ∙ may
comes_so places s f now past e k may = tt

-- one more entry
pub both_more : (places : List Bool) (s : Standings) (f : FaultData) (now past : List EntryText) (e : EntryText)
    → BothAre places s f now past → IsEntry e → MayCome s f e → BothAre places s (faults_by f e) (e ∷ now) past
both_more places s f now past (FaultIn A l) k is may = record {
  a = side_more s.left f.b.give s.a f.a l (lines_on A now) (lines_on A past) may is k.a;
  b = k.b;
  left = k.left;
}
both_more places s f now past (FaultIn B l) k is may = record {
  a = k.a;
  b = side_more s.left f.a.give s.b f.b l (lines_on B now) (lines_on B past) may is k.b;
  left = k.left;
}
both_more places s f now past e k is may = record { a = k.a; b = k.b; left = k.left }

-- ---- a tick line

side_after : (side : Side) (s : Standing) (f : SideFaultData) (now past : List EntryText)
    → SideIs s f (lines_on side now) (lines_on side past)
    → SideIs (stands_after s f) no_fault [] (lines_on side (now ++ past))
side_after side s f now past k =
    let same = sym (lines-append side now past) in
    record {
      before = k.failed ∙ ap failed_behind same;
      failed = k.failed ∙ ap failed_behind same;
      first = refl;
      exchange = refl;
      hold = refl;
      publish = refl;
      command = refl;
      contactor = refl;
      give = refl;
      holding = k.holding ∙ ap holds_behind same;
      gift = λ i. refl;
    }

none_left : (left : List Bool) (i : ℕ) → get_or (set left i false) i false ≡ false
none_left [] i = refl
none_left (x ∷ left) zero = refl
none_left (x ∷ left) (suc i) = none_left left i

and_true : (a b : Bool) → b ≡ false → a ≡ (a && not b)
and_true true b e = rw e refl
and_true false b e = refl

and_false : (a b : Bool) → b ≡ true → false ≡ (a && not b)
and_false true b e = rw e refl
and_false false b e = refl

left_behind : (left : List Bool) (gift : Option ℕ) (i : ℕ)
    → get_or (left_by left gift) i false ≡ (get_or left i false && not (is_place i gift))
left_behind left None i = and_true (get_or left i false) false refl
left_behind left (Some k) i = elim (cases_Bool (i == k)) [
  | inl at ↦
      let e : i ≡ k = grind (arith, common_steps) in
      subst (λ (x : ℕ). get_or (set left x false) i false ≡ false) e (none_left left i) ∙ and_false (get_or left i false) (i == k) at
  | inr is_not ↦
      let apart : i ≢ k = λ e. grind (arith, common_steps) in
      get_or-set_other left k i false false apart ∙ and_true (get_or left i false) (i == k) is_not
]

free_after : (has past_a past_b now_a now_b : Bool)
    → (((has && not (past_a || past_b)) && not now_a) && not now_b) ≡ (has && not ((now_a || past_a) || (now_b || past_b)))
free_after false past_a past_b now_a now_b = refl
free_after true true past_b true now_b = refl
free_after true true past_b false now_b = refl
free_after true false true true now_b = refl
free_after true false true false true = refl
free_after true false true false false = refl
free_after true false false true now_b = refl
free_after true false false false true = refl
free_after true false false false false = refl

-- behind the tick its lines are those of an earlier tick
pub both_after : (places : List Bool) (s : Standings) (f : FaultData) (now past : List EntryText) → BothAre places s f now past
    → BothAre places (standings_after s f) no_faults [] (now ++ past)
both_after places s f now past k = record {
  a = side_after A s.a f.a now past k.a;
  b = side_after B s.b f.b now past k.b;
  left = λ i. left_behind (left_by s.left f.a.give) f.b.give i
      ∙ ap (λ x. x && not (is_place i f.b.give)) (left_behind s.left f.a.give i)
      ∙ rw (k.left i, k.a.gift i, k.b.gift i, given_in i A now past, given_in i B now past)
      (free_after (get_or places i false) (gave i A past) (gave i B past) (gave i A now) (gave i B now));
}

-- before the first line
pub both_start : (places : List Bool) → BothAre places (all_stand places) no_faults [] []
both_start places = record {
  a = record {
    before = refl;
    failed = refl;
    first = refl;
    exchange = refl;
    hold = refl;
    publish = refl;
    command = refl;
    contactor = refl;
    give = refl;
    holding = refl;
    gift = λ i. refl;
  };
  b = record {
    before = refl;
    failed = refl;
    first = refl;
    exchange = refl;
    hold = refl;
    publish = refl;
    command = refl;
    contactor = refl;
    give = refl;
    holding = refl;
    gift = λ i. refl;
  };
  left = λ i. and_true (get_or places i false) false refl;
}

-- ---- the lines of a tick, one after the other

pub put_before-more : (now es : List EntryText) (e : EntryText) → put_before now (es ++ e ∷ []) ≡ e ∷ put_before now es
put_before-more now [] e = refl
put_before-more now (x ∷ es) e = put_before-more (x ∷ now) es e

pub put_before-append : (now past es : List EntryText) → put_before (now ++ past) es ≡ put_before now es ++ past
put_before-append now past [] = refl
put_before-append now past (e ∷ es) = put_before-append (e ∷ now) past es

pub all_stand-more : (places : List Bool) (now past es : List EntryText) (e : EntryText) → AllMayStand places now past es
    → MayStand places (put_before now es) past e → AllMayStand places now past (es ++ e ∷ [])
all_stand-more places now past [] e all may = (may, tt)
all_stand-more places now past (x ∷ es) e all may = (all.0, all_stand-more places (x ∷ now) past es e all.1 may)
