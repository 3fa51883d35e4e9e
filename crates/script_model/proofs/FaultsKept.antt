-- The faults of a tick by its lines so far: each line that may come keeps what a tick may have.
use Rattle.std.proofs.Common.{◌≡◌, ◌==◌, Bool, true, false, not, List, ℕ, refl, sym, ◌∙◌, subst, arith, get_or, if◌then◌else◌, Option, None, Some, IfSome}
use Rattle.std.specs.Prelude.{◌&&◌, is_some, is_none}
use Rattle.std.proofs.lemmas.Bool.{false≢true, true≢false}
use Rattle.std.proofs.lemmas.Grind.{common_steps}
use Rattle.lift_base.specs.declared.Side.{Side}
use Rattle.lift_base.specs.declared.Side.TheVariants.{A, B}
use Rattle.lift_base.specs.declared.Override.{Override}
use Rattle.lift_base.specs.declared.Override.TheVariants.{Keep, Follow, Force}
use Rattle.lift_model.specs.Records.{FaultData, SideFaultData}
use Rattle.round_model.specs.Giving.{is_place}
use Rattle.round_model.specs.Turns.{is_keep}
use Rattle.script_model.specs.declared.sides.SideLine.{SideLine}
use Rattle.script_model.specs.declared.sides.SideLine.TheVariants.{Exchange, Fail, Hold, Word, Value, Contactor, Give, Dismiss, Sample, Publish, Look, Command}
use Rattle.script_model.specs.declared.sides.Standing.{Standing}
use Rattle.script_model.specs.Faults.{no_fault, only_exchanged, no_faults, Standings, is_failed, is_holding, is_acting, is_untouched, is_left, may_stand, with_line, may_come, faults_with}
use Rattle.script_model.specs.Valid.{MayHave, MayHaveBoth}

-- ---- tests

pub two_tests : (a b : Bool) → (a && b) ≡ true → (a ≡ true) × (b ≡ true)
two_tests true true is = (refl, refl)
two_tests _ _ is = absurd cc

pub not_true : (a : Bool) → not a ≡ true → a ≡ false
not_true false is = refl
not_true true is = absurd (false≢true is)

-- a side that acts has not failed, neither before nor in this tick, and is neither held nor exchanged
pub record Acts (failed fail hold exchange : Bool) : Type 0 where
  pub stands : failed ≡ false
  pub fails : fail ≡ false
  pub held : hold ≡ false
  pub exchanged : exchange ≡ false

pub acting : (s : Standing) (f : SideFaultData) → is_acting s f ≡ true → Acts s.failed f.fail f.hold f.exchange
acting s f is = parts s.failed f.fail f.hold f.exchange is where
  parts : (failed fail hold exchange : Bool)
      → (not (if exchange then false else if fail then true else failed) && (not hold && not exchange)) ≡ true
      → Acts failed fail hold exchange
  parts false false false false is = record { stands = refl; fails = refl; held = refl; exchanged = refl }
  parts failed fail true true is = absurd (false≢true is)
  parts failed fail false true is = absurd (false≢true is)
  parts false false true false is = absurd (false≢true is)
  parts false true hold false is = absurd (false≢true is)
  parts true false hold false is = absurd (false≢true is)
  parts true true hold false is = absurd (false≢true is)

-- what has failed was not exchanged in the tick, nor was what holds an object
pub not_new : (exchange other : Bool) → (if exchange then false else other) ≡ true → exchange ≡ false
not_new false other is = refl
not_new true other is = absurd (false≢true is)

-- no line of the tick gave a fault
pub untouched : (f : SideFaultData) → is_untouched f ≡ true → f ≡ no_fault
untouched f is = parts f.fail f.hold f.exchange f.publish f.command f.contactor f.dismiss f.give is where
  parts : (fail hold exchange : Bool) (publish command : Option ℕ) (contactor : Override) (dismiss : Bool) (give : Option ℕ)
      → (not fail && (not hold && (not exchange && (is_none publish && (is_none command && (is_keep contactor
      && (not dismiss && is_none give))))))) ≡ true
      → record {
        fail = fail;
        hold = hold;
        exchange = exchange;
        publish = publish;
        command = command;
        contactor = contactor;
        dismiss = dismiss;
        give = give;
      } ≡ no_fault
  parts false false false None None Keep false None is = refl
  parts false false false None None Keep false (Some i) is = absurd (false≢true is)
  parts false false false None None Keep true give is = absurd (false≢true is)
  parts false false false None None Follow dismiss give is = absurd (false≢true is)
  parts false false false None None (Force kind) dismiss give is = absurd (false≢true is)
  parts false false false None (Some v) contactor dismiss give is = absurd (false≢true is)
  parts false false false (Some w) command contactor dismiss give is = absurd (false≢true is)
  parts false false true publish command contactor dismiss give is = absurd (false≢true is)
  parts false true exchange publish command contactor dismiss give is = absurd (false≢true is)
  parts true hold exchange publish command contactor dismiss give is = absurd (false≢true is)

pub none_given : (give : Option ℕ) → is_none give ≡ true → is_some give ≡ false
none_given None is = refl
none_given (Some i) is = absurd (false≢true is)

-- a side that holds an object of an earlier tick was not dismissed in this one
pub held_before : (s : Standing) (f : SideFaultData) → is_holding s f ≡ true → is_none f.give ≡ true → s.holds ≡ true
held_before s f is none = parts f.exchange (is_some f.give) f.dismiss s.holds (none_given f.give none) is where
  parts : (exchange given dismissed held : Bool) → given ≡ false
      → (if exchange then false else if given then true else if dismissed then false else held) ≡ true → held ≡ true
  parts true given dismissed held e is = absurd (false≢true is)
  parts false false false true e is = refl
  parts false false false false e is = absurd (false≢true is)
  parts false false true held e is = absurd (false≢true is)
  parts false true dismissed held e is = absurd (true≢false e)

pub holds_none : (s : Standing) (f : SideFaultData) → f.exchange ≡ false → is_holding s f ≡ false → is_some f.give ≡ false
holds_none s f same is = parts f.exchange (is_some f.give) _ same is where
  parts : (exchange given other : Bool) → exchange ≡ false → (if exchange then false else if given then true else other) ≡ false
      → given ≡ false
  parts true given other same is = absurd (true≢false same)
  parts false false other same is = refl
  parts false true other same is = absurd (true≢false is)

-- a side that is given an object held none, or it was dismissed
given_after : (exchange given dismissed held : Bool) → exchange ≡ false
    → (if exchange then false else if given then true else if dismissed then false else held) ≡ false
    → (dismissed ≡ true → held ≡ true) → held ≡ dismissed
given_after true given dismissed held same free was = absurd (true≢false same)
given_after false true dismissed held same free was = absurd (true≢false free)
given_after false false true held same free was = was refl
given_after false false false true same free was = absurd (true≢false free)
given_after false false false false same free was = refl

-- ---- one side

nothing : (s : Standing) → MayHave s no_fault
nothing s = record {
  fails = λ h. absurd (false≢true h);
  holds = λ h. absurd (false≢true h);
  exchange = λ h. absurd (false≢true h);
  publish = λ h. absurd (false≢true h);
  command = λ h. absurd (false≢true h);
  contactor = λ h. absurd (true≢false h);
  dismiss = λ h. absurd (false≢true h);
  give = λ h. absurd (false≢true h);
}

-- what a side that is exchanged may have
new_side : (s : Standing) → s.failed ≡ true → MayHave s only_exchanged
new_side s failed = record {
  fails = λ h. absurd (false≢true h);
  holds = λ h. absurd (false≢true h);
  exchange = λ h. (failed, refl);
  publish = λ h. absurd (false≢true h);
  command = λ h. absurd (false≢true h);
  contactor = λ h. absurd (true≢false h);
  dismiss = λ h. absurd (false≢true h);
  give = λ h. absurd (false≢true h);
}

-- what a line asks of a side that has failed
failing : (s : Standing) (f : SideFaultData) (more : Bool) → (is_failed s f && more) ≡ true
    → (is_failed s f ≡ true) × (f.exchange ≡ false) × (more ≡ true)
failing s f more may = let is = two_tests _ _ may in (is.0, not_new f.exchange _ is.0, is.1)

side_keeps : (left : List Bool) (other : Option ℕ) (s : Standing) (f : SideFaultData) (l : SideLine)
    → may_stand left other s f l ≡ true → MayHave s f → MayHave s (with_line f l)
side_keeps left other s f Exchange may k =
    let is = two_tests _ _ may in
    subst (λ (x : SideFaultData). MayHave s (record x { exchange = true })) (sym (untouched f is.1)) (new_side s is.0)
side_keeps left other s f Fail may k =
    let is = acting s f may in
    let failed : is_failed s (record f { fail = true }) ≡ true = rw is.exchanged refl in
    record {
      fails = λ h. (is.stands, is.held);
      holds = λ h. is.stands;
      exchange = λ h. absurd (false≢true (sym is.exchanged ∙ h));
      publish = λ h. failed;
      command = λ h. failed;
      contactor = λ h. failed;
      dismiss = λ h. (failed, (k.dismiss h).1);
      give = λ h. (failed, (k.give h).1);
    }
side_keeps left other s f Hold may k =
    let is = acting s f may in
    record {
      fails = λ h. absurd (false≢true (sym is.fails ∙ h));
      holds = λ h. is.stands;
      exchange = λ h. absurd (false≢true (sym is.exchanged ∙ h));
      publish = k.publish;
      command = k.command;
      contactor = k.contactor;
      dismiss = k.dismiss;
      give = k.give;
    }
side_keeps left other s f (Word w) may k =
    let is = failing s f _ may in
    record {
      fails = k.fails;
      holds = k.holds;
      exchange = λ h. absurd (false≢true (sym is.1 ∙ h));
      publish = λ h. is.0;
      command = k.command;
      contactor = k.contactor;
      dismiss = k.dismiss;
      give = k.give;
    }
side_keeps left other s f (Value w) may k =
    let is = failing s f _ may in
    record {
      fails = k.fails;
      holds = k.holds;
      exchange = λ h. absurd (false≢true (sym is.1 ∙ h));
      publish = k.publish;
      command = λ h. is.0;
      contactor = k.contactor;
      dismiss = k.dismiss;
      give = k.give;
    }
side_keeps left other s f (Contactor order) may k =
    let is = failing s f _ may in
    record {
      fails = k.fails;
      holds = k.holds;
      exchange = λ h. absurd (false≢true (sym is.1 ∙ h));
      publish = k.publish;
      command = k.command;
      contactor = λ h. is.0;
      dismiss = k.dismiss;
      give = k.give;
    }
side_keeps left other s f (Give i) may k =
    let is = failing s f _ may in
    let free = not_true (is_holding s f) (two_tests _ _ is.2).0 in
    record {
      fails = k.fails;
      holds = k.holds;
      exchange = λ h. absurd (false≢true (sym is.1 ∙ h));
      publish = k.publish;
      command = k.command;
      contactor = k.contactor;
      dismiss = k.dismiss;
      give = λ h. (is.0, given_after f.exchange (is_some f.give) f.dismiss s.holds is.1 free (λ d. (k.dismiss d).1));
    }
side_keeps left other s f Dismiss may k =
    let is = failing s f _ may in
    let held = two_tests _ _ is.2 in
    record {
      fails = k.fails;
      holds = k.holds;
      exchange = λ h. absurd (false≢true (sym is.1 ∙ h));
      publish = k.publish;
      command = k.command;
      contactor = k.contactor;
      dismiss = λ h. (is.0, held_before s f held.0 held.1);
      give = λ h. absurd (false≢true (sym (none_given f.give held.1) ∙ h));
    }
side_keeps left other s f Sample may k = k
side_keeps left other s f Publish may k = k
side_keeps left other s f Look may k = k
side_keeps left other s f Command may k = k

-- ---- both sides

pub nothing_yet : (s : Standings) → MayHaveBoth s no_faults
nothing_yet s = record { a = nothing s.a; b = nothing s.b; left_a = tt; left_b = tt }

same : (a b : ℕ) → (a == b) ≡ true → a ≡ b
same a b is = grind (arith, common_steps)

-- a place that is left to a side is left
pub left_to : (left : List Bool) (i : ℕ) (other : Option ℕ) → is_left left other i ≡ true → get_or left i false ≡ true
left_to left i other is = (two_tests _ _ is).0

apart : (i k : ℕ) → (i == k) ≡ false → (k == i) ≡ false
apart i k is = grind (arith, common_steps)

-- a place that was given stays so where the other side is given another one
stays_left : (left : List Bool) (give other : Option ℕ) (i : ℕ) → IfSome give (λ k. is_left left other k ≡ true)
    → is_left left give i ≡ true
    → IfSome give (λ k. is_left left (Some i) k ≡ true)
stays_left left None other i mine is = tt
stays_left left (Some k) other i mine is =
    let free = apart i k (not_true (i == k) (two_tests _ _ is).1) in
    rw (left_to left k other mine, free) refl

-- a line that may come keeps what the tick may have
pub line_keeps : (s : Standings) (f : FaultData) (side : Side) (l : SideLine) → may_come s f side l ≡ true → MayHaveBoth s f
    → MayHaveBoth s (faults_with f side l)
line_keeps s f A (Give i) may k =
    let place = (two_tests _ _ (two_tests _ _ may).1).1 in
    record {
      a = side_keeps s.left f.b.give s.a f.a (Give i) may k.a;
      b = k.b;
      left_a = place;
      left_b = stays_left s.left f.b.give f.a.give i k.left_b place;
    }
line_keeps s f B (Give i) may k =
    let place = (two_tests _ _ (two_tests _ _ may).1).1 in
    record {
      a = k.a;
      b = side_keeps s.left f.a.give s.b f.b (Give i) may k.b;
      left_a = stays_left s.left f.a.give f.b.give i k.left_a place;
      left_b = place;
    }
line_keeps s f A l may k =
    record { a = side_keeps s.left f.b.give s.a f.a l may k.a; b = k.b; left_a = k.left_a; left_b = k.left_b }
line_keeps s f B l may k =
    record { a = k.a; b = side_keeps s.left f.a.give s.b f.b l may k.b; left_a = k.left_a; left_b = k.left_b }

-- what a tick may have of failures and gifts
pub gift_left : (left : List Bool) (give other : Option ℕ) (i : ℕ) → IfSome give (λ k. is_left left other k ≡ true)
    → is_place i give ≡ true → (get_or left i false ≡ true) × (is_place i other ≡ false)
gift_left left None other i mine is = absurd (false≢true is)
gift_left left (Some k) other i mine is =
    let at : k ≡ i = sym (same i k is) in
    let both = two_tests _ _ mine in
    (subst (λ (j : ℕ). get_or left j false ≡ true) at both.0, subst (λ (j : ℕ). is_place j other ≡ false) at (not_true _ both.1))
