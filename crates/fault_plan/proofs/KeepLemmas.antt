-- What a single fault does tick by tick keeps the rules of faults.
use Rattle.std.proofs.Common.{◌≡◌, ℕ, ◌+◌, ◌-◌, ◌<◌, ◌≤◌, ◌==◌, Bool, true, false, not, refl, sym, ap, ◌∙◌, subst, arith, inl, inr, nat_lt, List, [], ◌∷◌, ◌++◌, append_assoc, append-nil, if◌then◌else◌, Option, Some, None}
use Rattle.std.specs.Prelude.{◌⊎◌, ◌&&◌, ◌||◌, IfSome}
use Rattle.std.specs.List.{AllByRecursion}
use Rattle.std.proofs.lemmas.Bool.{cases_Bool, ltb-true, ltb-false, false≢true, true≢false, ne_eqb}
use Rattle.std.proofs.lemmas.Grind.{common_steps}
use Rattle.lift_model.specs.Enums.{Override, Keep, Force, Side, A, B}
use Rattle.lift_model.specs.Records.{InputData, FaultData, SideFaultData}
use Rattle.round_model.proofs.LegalLemmas.{has_failed-push}
use Rattle.round_model.proofs.OnceLemmas.{given-push, fails_once-push, gives_once-push, fails_once-none, gives_once-none}
use Rattle.round_model.specs.Giving.{is_place, gives, is_given, GivesOnceIn}
use Rattle.round_model.specs.Parts.{has_failed, FailsOnceBy, FailsOnceIn}
use Rattle.script_model.specs.declared.sides.Standing.{Standing}
use Rattle.script_model.specs.Faults.{no_fault, no_faults, only_exchanged, Standings, all_stand, is_failed, standings_after}
use Rattle.script_model.specs.Judging.{ScriptData}
use Rattle.script_model.specs.Rules.{KeepsRules}
use Rattle.script_model.specs.Valid.{MayHave, MayHaveBoth, MayFollow}
use Rattle.fault_plan.specs.Doing.{does, side_faults, faults_in, on_side, stored}
use Rattle.fault_plan.specs.Made.{inputs_with, script_with}
use Rattle.fault_plan.specs.declared.single.SingleFault.{SingleFault}
use Rattle.fault_plan.specs.declared.single.What.{What}
use Rattle.fault_plan.specs.declared.single.What.TheVariants.{Silent, Wrong, Fresh, Others, Last, Right, Forced, Held, Exchanged, ExchangedAndReset}
use Rattle.fault_plan.specs.declared.words.TickWords.{TickWords}

-- ---- one side

-- the side was exchanged before so many ticks had passed since the fault's first
abbrev was_exchanged : ℕ → ℕ → Bool
was_exchanged after since = nat_lt 0 after && nat_lt after since

-- it has failed, as the tick begins that comes so many ticks after the fault's first
abbrev failed_before : What → ℕ → Bool
failed_before Silent since = not (since == 0)
failed_before (Wrong word) since = not (since == 0)
failed_before (Fresh kind) since = not (since == 0)
failed_before Others since = not (since == 0)
failed_before Last since = not (since == 0)
failed_before Right since = not (since == 0)
failed_before (Forced kind) since = not (since == 0)
failed_before (Held ticks) since = false
failed_before (Exchanged after) since = not (since == 0) && not (was_exchanged after since)
failed_before (ExchangedAndReset after) since = not (since == 0) && not (was_exchanged after since)

-- a side that may do so stands so after it
record Goes (s : Standing) (f : SideFaultData) (failed : Bool) : Type 0 where
  may : MayHave s f
  after : is_failed s f ≡ failed

later : (since : ℕ) → (since + 1 == 0) ≡ false
later since = ne_eqb (since + 1) 0 (λ x. omega arith)

-- a side that fails and may store words and force its contactor
storing : (s : Standing) (begins : Bool) (publish command : Option ℕ) (order : Override) → s.failed ≡ not begins
    → Goes s (record {
      fail = begins;
      hold = false;
      exchange = false;
      publish = publish;
      command = command;
      contactor = if begins then order else Keep;
      dismiss = false;
      give = None;
    }) true
storing s true publish command order was = record {
  may = record {
    fails = λ h. (was, refl);
    holds = λ h. absurd (false≢true h);
    exchange = λ h. absurd (false≢true h);
    publish = λ h. refl;
    command = λ h. refl;
    contactor = λ h. refl;
    dismiss = λ h. absurd (false≢true h);
    give = λ h. absurd (false≢true h);
  };
  after = refl;
}
storing s false publish command order was = record {
  may = record {
    fails = λ h. absurd (false≢true h);
    holds = λ h. absurd (false≢true h);
    exchange = λ h. absurd (false≢true h);
    publish = λ h. was;
    command = λ h. was;
    contactor = λ h. absurd (true≢false h);
    dismiss = λ h. absurd (false≢true h);
    give = λ h. absurd (false≢true h);
  };
  after = was;
}

holding : (s : Standing) (hold : Bool) → s.failed ≡ false → Goes s (record no_fault { hold = hold }) false
holding s hold was = record {
  may = record {
    fails = λ h. absurd (false≢true h);
    holds = λ h. was;
    exchange = λ h. absurd (false≢true h);
    publish = λ h. absurd (false≢true h);
    command = λ h. absurd (false≢true h);
    contactor = λ h. absurd (true≢false h);
    dismiss = λ h. absurd (false≢true h);
    give = λ h. absurd (false≢true h);
  };
  after = was;
}

-- a side that is exchanged now
replacing : (s : Standing) → s.failed ≡ true → Goes s only_exchanged false
replacing s was = record {
  may = record {
    fails = λ h. absurd (false≢true h);
    holds = λ h. absurd (false≢true h);
    exchange = λ h. (was, refl);
    publish = λ h. absurd (false≢true h);
    command = λ h. absurd (false≢true h);
    contactor = λ h. absurd (true≢false h);
    dismiss = λ h. absurd (false≢true h);
    give = λ h. absurd (false≢true h);
  };
  after = refl;
}

-- a side that fails silent and is exchanged later
exchanging : (s : Standing) (begins exchange was : Bool) → s.failed ≡ was → (begins ≡ true → was ≡ false)
    → (exchange ≡ true → (begins ≡ false) × (was ≡ true))
    → Goes s (record no_fault { fail = begins; exchange = exchange; contactor = if begins then Keep else Keep })
    (not exchange && (begins || was))
exchanging s true true was e first now = absurd (true≢false (now refl).0)
exchanging s true false was e first now = record {
  may = (storing s true None None Keep (e ∙ first refl)).may;
  after = refl;
}
exchanging s false true was e first now = replacing s (e ∙ (now refl).1)
exchanging s false false was e first now = record {
  may = (holding_none s);
  after = e;
} where
  holding_none : (s : Standing) → MayHave s no_fault
  holding_none s = record {
    fails = λ h. absurd (false≢true h);
    holds = λ h. absurd (false≢true h);
    exchange = λ h. absurd (false≢true h);
    publish = λ h. absurd (false≢true h);
    command = λ h. absurd (false≢true h);
    contactor = λ h. absurd (true≢false h);
    dismiss = λ h. absurd (false≢true h);
    give = λ h. absurd (false≢true h);
  }

leaves_now : (after since : ℕ) → (nat_lt 0 since && since == after) ≡ true
    → ((since == 0) ≡ false) × ((not (since == 0) && not (was_exchanged after since)) ≡ true)
leaves_now after since is = (grind (arith, common_steps), grind (arith, common_steps))

leaves_later : (after since : ℕ)
    → (not (nat_lt 0 since && since == after) && ((since == 0) || (not (since == 0) && not (was_exchanged after since))))
    ≡ (not (since + 1 == 0) && not (was_exchanged after (since + 1)))
leaves_later after since = grind (arith, common_steps)

stays_failed : (s : Standing) (f : SideFaultData) (since : ℕ) → Goes s f true → Goes s f (not (since + 1 == 0))
stays_failed s f since goes = subst (Goes s f) (sym (ap not (later since))) goes

replaced : (s : Standing) (after since : ℕ) → s.failed ≡ (not (since == 0) && not (was_exchanged after since))
    → Goes s (record no_fault {
      fail = since == 0;
      exchange = nat_lt 0 since && since == after;
      contactor = if since == 0 then Keep else Keep;
    }) (not (since + 1 == 0) && not (was_exchanged after (since + 1)))
replaced s after since was = subst (Goes s _) (leaves_later after since)
    (exchanging s (since == 0) (nat_lt 0 since && since == after) (not (since == 0) && not (was_exchanged after since)) was
    (λ first. rw first refl) (leaves_now after since))

-- what a fault does so many ticks after its first
does_goes : (words : List TickWords) (side : Side) (what : What) (n since : ℕ) (s : Standing) → s.failed ≡ failed_before what since
    → Goes s (does what (stored words side what n) since) (failed_before what (since + 1))
does_goes words side Silent n since s was = stays_failed s _ since (storing s (since == 0) None None Keep was)
does_goes words side (Wrong word) n since s was = stays_failed s _ since (storing s (since == 0) _ _ Keep was)
does_goes words side (Fresh kind) n since s was = stays_failed s _ since (storing s (since == 0) _ _ Keep was)
does_goes words side Others n since s was = stays_failed s _ since (storing s (since == 0) _ _ Keep was)
does_goes words side Last n since s was = stays_failed s _ since (storing s (since == 0) _ _ Keep was)
does_goes words side Right n since s was = stays_failed s _ since (storing s (since == 0) _ _ Keep was)
does_goes words side (Forced kind) n since s was = stays_failed s _ since (storing s (since == 0) _ _ (Force kind) was)
does_goes words side (Held ticks) n since s was = held_goes (since == 0) where
  held_goes : (begins : Bool) → Goes s (record no_fault {
    hold = nat_lt since ticks;
    contactor = if begins then Keep else Keep;
  }) false
  held_goes true = holding s (nat_lt since ticks) was
  held_goes false = holding s (nat_lt since ticks) was
does_goes words side (Exchanged after) n since s was = replaced s after since was
does_goes words side (ExchangedAndReset after) n since s was = replaced s after since was

none_before : (what : What) → failed_before what 0 ≡ false
none_before Silent = refl
none_before (Wrong word) = refl
none_before (Fresh kind) = refl
none_before Others = refl
none_before Last = refl
none_before Right = refl
none_before (Forced kind) = refl
none_before (Held ticks) = refl
none_before (Exchanged after) = refl
none_before (ExchangedAndReset after) = refl

-- the side of the fault in tick n
side_goes : (words : List TickWords) (f : SingleFault) (n : ℕ) (s : Standing) → s.failed ≡ failed_before f.what (n - f.tick)
    → Goes s (side_faults words f n) (failed_before f.what (n + 1 - f.tick))
unfolding side_faults
side_goes words f n s was = elim (cases_Bool (nat_lt n f.tick)) [
  | inl early ↦
      let before : n < f.tick = ltb-true n f.tick early in
      let now : n - f.tick ≡ 0 = omega (arith, before) in
      let next : 0 ≡ n + 1 - f.tick = omega (arith, before) in
      let healthy : s.failed ≡ false = was ∙ (ap (failed_before f.what) now ∙ none_before f.what) in
      rw early (subst (Goes s no_fault) (sym (none_before f.what) ∙ ap (failed_before f.what) next) (holding s false healthy))
  | inr due ↦
      let from : f.tick ≤ n = ltb-false n f.tick due in
      let next : n - f.tick + 1 ≡ n + 1 - f.tick = omega (arith, from) in
      rw due (subst (Goes s _) (ap (failed_before f.what) next) (does_goes words f.side f.what n (n - f.tick) s was))
]

gives_none : (words : List TickWords) (f : SingleFault) (n : ℕ) → (side_faults words f n).give ≡ None
unfolding side_faults
gives_none words f n = elim (cases_Bool (nat_lt n f.tick)) [
  | inl early ↦ rw early refl
  | inr due ↦ rw due refl
]

-- ---- both sides

nothing : (s : Standing) → MayHave s no_fault
nothing s = record {
  fails = λ h. absurd (false≢true h);
  holds = λ h. absurd (false≢true h);
  exchange = λ h. absurd (false≢true h);
  publish = λ h. absurd (false≢true h);
  command = λ h. absurd (false≢true h);
  contactor = λ h. absurd (true≢false h);
  dismiss = λ h. absurd (false≢true h);
  give = λ h. absurd (false≢true h);
}

of_none : (P : ℕ → Type 0) (give : Option ℕ) → give ≡ None → IfSome give P
of_none P None is = tt
of_none P (Some i) is = absurd cc

follow_a : (words : List TickWords) (f : SingleFault) → f.side ≡ A → (n : ℕ) (inputs : List InputData) (s : Standings)
    → s.a.failed ≡ failed_before f.what (n - f.tick) → MayFollow s (inputs_with words f n inputs)
unfolding inputs_with
follow_a words f is n [] s was = tt
follow_a words f is n (input ∷ inputs) s was =
    let goes = side_goes words f n s.a was in
    let at : faults_in words f n ≡ record no_faults { a = side_faults words f n } =
    ap (λ side. on_side side (side_faults words f n)) is in (
      subst (MayHaveBoth s) (sym at) (record {
        a = goes.may;
        b = nothing s.b;
        left_a = of_none _ (side_faults words f n).give (gives_none words f n);
        left_b = tt;
      }),
      follow_a words f is (n + 1) inputs (standings_after s (faults_in words f n))
          (ap (λ x. (standings_after s x).a.failed) at ∙ goes.after),
    )

follow_b : (words : List TickWords) (f : SingleFault) → f.side ≡ B → (n : ℕ) (inputs : List InputData) (s : Standings)
    → s.b.failed ≡ failed_before f.what (n - f.tick) → MayFollow s (inputs_with words f n inputs)
unfolding inputs_with
follow_b words f is n [] s was = tt
follow_b words f is n (input ∷ inputs) s was =
    let goes = side_goes words f n s.b was in
    let at : faults_in words f n ≡ record no_faults { b = side_faults words f n } =
    ap (λ side. on_side side (side_faults words f n)) is in (
      subst (MayHaveBoth s) (sym at) (record {
        a = nothing s.a;
        b = goes.may;
        left_a = tt;
        left_b = of_none _ (side_faults words f n).give (gives_none words f n);
      }),
      follow_b words f is (n + 1) inputs (standings_after s (faults_in words f n))
          (ap (λ x. (standings_after s x).b.failed) at ∙ goes.after),
    )

cases_side : (side : Side) → (side ≡ A) ⊎ (side ≡ B)
cases_side A = inl refl
cases_side B = inr refl

-- the script of a fault may have its faults
pub follows : (places : List Bool) (words : List TickWords) (f : SingleFault) (inputs : List InputData) → 1 ≤ f.tick
    → MayFollow (all_stand places) (inputs_with words f 1 inputs)
follows places words f inputs from =
    let now : 0 ≡ 1 - f.tick = omega (arith, from) in
    let start : false ≡ failed_before f.what (1 - f.tick) = sym (none_before f.what) ∙ ap (failed_before f.what) now in
    elim (cases_side f.side) [
      | inl is ↦ follow_a words f is 1 inputs (all_stand places) start
      | inr is ↦ follow_b words f is 1 inputs (all_stand places) start
    ]

-- ---- the rules

abbrev gives_nothing : InputData → Type 0
gives_nothing i = (i.faults.a.give ≡ None) × (i.faults.b.give ≡ None)

none_in : (words : List TickWords) (f : SingleFault) (n : ℕ) (side : Side) → f.side ≡ side
    → ((faults_in words f n).a.give ≡ None) × ((faults_in words f n).b.give ≡ None)
none_in words f n A is =
    let at = ap (λ side. on_side side (side_faults words f n)) is in
    (ap (λ (x : FaultData). x.a.give) at ∙ gives_none words f n, ap (λ (x : FaultData). x.b.give) at)
none_in words f n B is =
    let at = ap (λ side. on_side side (side_faults words f n)) is in
    (ap (λ (x : FaultData). x.a.give) at, ap (λ (x : FaultData). x.b.give) at ∙ gives_none words f n)

none_given : (words : List TickWords) (f : SingleFault) (n : ℕ) (inputs : List InputData)
    → AllByRecursion gives_nothing (inputs_with words f n inputs)
unfolding inputs_with
none_given words f n [] = tt
none_given words f n (input ∷ inputs) = (none_in words f n f.side refl, none_given words f (n + 1) inputs)

record Kept (inputs : List InputData) : Type 0 where
  fails : FailsOnceIn inputs
  gives : GivesOnceIn inputs
  none : (i : ℕ) → is_given i inputs ≡ false

failed_too : (exchange fail failed was : Bool) → failed ≡ was
    → (if exchange then false else if fail then true else failed) ≡ (not exchange && (was || fail))
failed_too true fail failed was e = refl
failed_too false true failed true e = refl
failed_too false true failed false e = refl
failed_too false false failed true e = e
failed_too false false failed false e = e

once_by : (s : Standing) (f : SideFaultData) (was : Bool) → s.failed ≡ was → MayHave s f → FailsOnceBy was f
once_by s f was same k = record {
  fails = λ h. sym same ∙ (k.fails h).0;
  exchanged = λ h. sym same ∙ (k.exchange h).0;
  alone = λ h. ap (λ (x : SideFaultData). x.fail) (k.exchange h).1;
}

rules_from : (past inputs : List InputData) (s : Standings) → Kept past → s.a.failed ≡ has_failed A past → s.b.failed ≡ has_failed B past
    → MayFollow s inputs → AllByRecursion gives_nothing inputs → Kept (past ++ inputs)
rules_from past [] s k a b may none = subst Kept (sym (append-nil past)) k
rules_from past (x ∷ inputs) s k a b may none =
    let ga : (i : ℕ) → gives i x.faults.a ≡ false = λ i. ap (is_place i) none.0.0 in
    let gb : (i : ℕ) → gives i x.faults.b ≡ false = λ i. ap (is_place i) none.0.1 in
    let more : Kept (past ++ x ∷ []) = record {
      fails = fails_once-push past x k.fails (elim [
        | A ↦ once_by s.a x.faults.a (has_failed A past) a may.0.a
        | B ↦ once_by s.b x.faults.b (has_failed B past) b may.0.b
      ]);
      gives = gives_once-push past x k.gives (record { a = λ i g. k.none i; b = λ i g. (k.none i, ga i) });
      none = λ i. given-push i past x ∙ (rw (k.none i, ga i, gb i) refl);
    } in
    subst Kept (append_assoc past (x ∷ []) inputs) (rules_from (past ++ x ∷ []) inputs (standings_after s x.faults) more
    (failed_too x.faults.a.exchange x.faults.a.fail s.a.failed (has_failed A past) a ∙ sym (has_failed-push A false past x))
    (failed_too x.faults.b.exchange x.faults.b.fail s.b.failed (has_failed B past) b ∙ sym (has_failed-push B false past x)) may.1 none.1)

-- the script of a fault keeps the rules
pub keeps_rules : (places : List Bool) (words : List TickWords) (f : SingleFault) (s : ScriptData) → 1 ≤ f.tick
    → KeepsRules places (script_with words f s)
keeps_rules places words f s from =
    let k = rules_from [] (inputs_with words f 1 s.inputs) (all_stand places)
    (record { fails = fails_once-none; gives = gives_once-none; none = λ i. refl }) refl refl (follows places words f s.inputs from)
    (none_given words f 1 s.inputs) in
    record { steps = refl; fails = k.fails; gives = k.gives; held = λ i g. absurd (false≢true (sym (k.none i) ∙ g)) }
