-- An object with a told list, and the list's deeds as lines of the script, have the same legal rounds.
use Rattle.std.proofs.Common.{◌≡◌, ℕ, ◌-◌, Bool, true, false, refl, sym, ap, ◌∙◌, subst, cond, eqb, List, [], ◌∷◌, ◌++◌, length, drop, get_or, Option, Some, None}
use Rattle.std.specs.Prelude.{◌⊎◌, ◌||◌, ◌&&◌, not}
use Rattle.std.proofs.lemmas.Bool.{and_parts, or_parts, true≢false}
use Rattle.std.proofs.lemmas.List.{append-nil, append_assoc}
use Rattle.lift_base.specs.declared.Override.{Override}
use Rattle.lift_base.specs.declared.Override.TheVariants.{Keep, Follow, Force}
use Rattle.lift_base.specs.declared.Side.{Side}
use Rattle.lift_base.specs.declared.Side.TheVariants.{A, B}
use Rattle.lift_model.specs.Plans.{Plan, deeds, idle, IsDeed, rest_of}
use Rattle.lift_model.specs.Records.{Settings, InputData, SideFaultData, DeedData}
use Rattle.core_model.proofs.PlainLemmas.{same_trace}
use Rattle.core_model.specs.Decision.{Kept}
use Rattle.core_model.specs.Due.{has_tick}
use Rattle.core_model.specs.Machine.{Channel, State, Event, Tick, Step, side_of, other, next, start}
use Rattle.core_model.specs.declared.SideStep.TheVariants.{Fail}
use Rattle.core_model.specs.Runs.{after_all}
use Rattle.round_model.proofs.BareLemmas.{bare, length-bares, grant-bares, words-bares, erase, next-erase, tick-erase}
use Rattle.round_model.proofs.HeldLemmas.{held-append, rest-none, none_is, left_alone, left_failed, acted_rest, rest-drop, deed_of_list}
use Rattle.round_model.proofs.LawfulLemmas.{behind, behind_no_tick}
use Rattle.round_model.proofs.LegalLemmas.{has_failed-push}
use Rattle.round_model.specs.Events.{moves, events_of}
use Rattle.round_model.specs.Holding.{given, held_from, held_in}
use Rattle.round_model.specs.Inline.{all_leave, inlined, with_faults, all_inlined, is_silent, all_silent, InlineEqualsBoxed}
use Rattle.round_model.specs.Lawful.{Legal, no_rounds, then_round}
use Rattle.round_model.specs.Parts.{Part, faults_of, failed_by, has_failed, part_by, part_of}
use Rattle.round_model.specs.Records.{TurnData, RoundData}
use Rattle.round_model.specs.Turns.{after, turn_of, acting_turn, either, order_of, is_keep, failed_turn, IsFailedTurn, has_looked, IsLegalRound}

-- ---- the state behind a round, up to faults

after-erase : (config : Settings) (s : State) (es : List Event) → has_tick es ≡ false
    → after_all config (erase s) es ≡ erase (after_all config s es)
after-erase config s [] n = refl
after-erase config s (e ∷ es) n = let p = or_parts _ _ n in ap (λ t. after_all config t es) (next-erase config s e p.0)
    ∙ after-erase config (next config s e) es p.1

keeps_trace : (config : Settings) (s : State) (es : List Event) → has_tick es ≡ false → (after_all config s es).trace ≡ s.trace
keeps_trace config s [] n = refl
keeps_trace config s (e ∷ es) n = let p = or_parts _ _ n in keeps_trace config (next config s e) es p.1 ∙ (same_trace config s e p.0).0

pub legal_trace : (config : Settings) (crew : List (Option Plan)) (inputs : List InputData) (rounds : List RoundData)
    (events : List Event) (s : State) → Legal config crew inputs rounds events s → s.trace ≡ inputs
legal_trace config crew _ _ _ _ no_rounds = refl
legal_trace config crew _ _ _ _ (then_round {inputs} {rounds} {events} {s} legal input r ok) =
    keeps_trace config (next config s (Tick input)) (behind s input r) (behind_no_tick s input r)
    ∙ ap (λ past. past ++ input ∷ []) (legal_trace config crew inputs rounds events s legal)

-- ---- scripts that match tick by tick

pub record Alike (crew : List (Option Plan)) (P Q : List InputData) (i j : InputData) : Type 0 where
  pub same : bare i ≡ bare j
  pub fail : (side : Side) → (faults_of side i).fail ≡ (faults_of side j).fail
  pub hold : (side : Side) → (faults_of side i).hold ≡ (faults_of side j).hold
  pub exchange : (side : Side) → (faults_of side i).exchange ≡ (faults_of side j).exchange
  pub there : (side : Side) (u : TurnData) → IsFailedTurn (faults_of side i) (held_in crew side P i) u
      → IsFailedTurn (faults_of side j) (held_in crew side Q j) u
  pub back : (side : Side) (u : TurnData) → IsFailedTurn (faults_of side j) (held_in crew side Q j) u
      → IsFailedTurn (faults_of side i) (held_in crew side P i) u

pub data Matched (crew : List (Option Plan)) : List InputData → List InputData → Type 0 where
  none : Matched crew [] []
  more : {P Q : List InputData} → Matched crew P Q → (i j : InputData) → Alike crew P Q i j → Matched crew (P ++ i ∷ []) (Q ++ j ∷ [])

turn_round : {crew : List (Option Plan)} {P Q : List InputData} → Matched crew P Q → Matched crew Q P
turn_round none = none
turn_round (more m i j a) = more (turn_round m) j i (record {
  same = sym a.same;
  fail = λ side. sym (a.fail side);
  hold = λ side. sym (a.hold side);
  exchange = λ side. sym (a.exchange side);
  there = a.back;
  back = a.there;
})

failed_by-same : (was : Bool) (f g : SideFaultData) → f.fail ≡ g.fail → f.exchange ≡ g.exchange → failed_by was f ≡ failed_by was g
failed_by-same was f g e x = ap (λ b. not f.exchange && (was || b)) e ∙ ap (λ b. not b && (was || g.fail)) x

fails_same : (crew : List (Option Plan)) (P Q : List InputData) → Matched crew P Q → (side : Side) → has_failed side P ≡ has_failed side Q
fails_same crew _ _ none side = refl
fails_same crew _ _ (more {P} {Q} m i j a) side =
    has_failed-push side false P i ∙ (ap (λ b. failed_by b (faults_of side i)) (fails_same crew P Q m side)
    ∙ (failed_by-same (has_failed side Q) (faults_of side i) (faults_of side j) (a.fail side) (a.exchange side)
    ∙ sym (has_failed-push side false Q j)))

acting-erase : (config : Settings) (s : State) (k : Kept) (w : ℕ) → acting_turn config (erase s) k w ≡ acting_turn config s k w
acting-erase config s k w = rw (
  length-bares s.trace,
  grant-bares config s.trace (length s.trace),
  grant-bares config s.trace (length s.trace - 1),
  words-bares s.trace,
) refl

lay : Bool → Bool → Part → Part → Channel → Channel → RoundData → List Event
lay fa fb p q a b r = cond fa (Step A Fail ∷ []) []
    ++ (cond fb (Step B Fail ∷ []) [] ++ moves p q (eqb r.a.seen (after b.publish r.b.publish))
    (eqb r.b.seen (after a.publish r.a.publish)) r)

lay_is : (s : State) (i : InputData) (r : RoundData)
    → behind s i r ≡ lay i.faults.a.fail i.faults.b.fail (part_of A s.trace i) (part_of B s.trace i) s.a s.b r
unfolding lay
lay_is s i r = refl

lay_same : {a b c d : Bool} {p q x y : Part} {k l m n : Channel} (r : RoundData) → a ≡ c → b ≡ d → p ≡ x → q ≡ y → k ≡ m → l ≡ n
    → lay a b p q k l r ≡ lay c d x y m n r
lay_same r e1 e2 e3 e4 e5 e6 = cc

module _ (config : Settings) (crew : List (Option Plan)) (P Q : List InputData) (m : Matched crew P Q) (s t : State) (es : s.trace ≡ P)
    (et : t.trace ≡ Q) (like : erase s ≡ erase t)
    (i j : InputData) (a : Alike crew P Q i j) (r : RoundData) where
  part_same : (side : Side) → part_of side s.trace i ≡ part_of side t.trace j
  part_same side =
      let f = faults_of side i in
      let g = faults_of side j in
      ap (λ x. part_of side x i) es ∙ (ap (λ b. part_by f.exchange (failed_by b f) f.hold) (fails_same crew P Q m side)
      ∙ (ap (λ b. part_by f.exchange b f.hold) (failed_by-same (has_failed side Q) f g (a.fail side) (a.exchange side))
      ∙ (ap (λ b. part_by b (failed_by (has_failed side Q) g) f.hold) (a.exchange side)
      ∙ (ap (λ b. part_by g.exchange (failed_by (has_failed side Q) g) b) (a.hold side) ∙ ap (λ x. part_of side x j) (sym et)))))

  channel_same : (side : Side) → side_of side s ≡ side_of side t
  channel_same A = ap (λ (z : State). z.a) like
  channel_same B = ap (λ (z : State). z.b) like

  ticks_alike : erase (next config s (Tick i)) ≡ erase (next config t (Tick j))
  ticks_alike = sym (tick-erase config s i) ∙ (ap (λ z. next config z (Tick (bare i))) like
      ∙ (ap (λ x. next config (erase t) (Tick x)) a.same ∙ tick-erase config t j))

  acting_same : (k : Kept) (w : ℕ) → acting_turn config (next config s (Tick i)) k w ≡ acting_turn config (next config t (Tick j)) k w
  acting_same k w = sym (acting-erase config (next config s (Tick i)) k w)
      ∙ (ap (λ z. acting_turn config z k w) ticks_alike ∙ acting-erase config (next config t (Tick j)) k w)

  round_same : IsLegalRound config crew s i r → IsLegalRound config crew t j r
  round_same l = record {
    held = λ side p. l.held side (part_same side ∙ p);
    exchanged = λ side p. l.exchanged side (part_same side ∙ p);
    acting = λ side p. l.acting side (part_same side ∙ p)
        ∙ (acting_same _ _ ∙ ap (λ (c : Channel). acting_turn config (next config t (Tick j)) c.kept (turn_of side r).seen)
        (channel_same side));
    failed = λ side p. subst (λ x. IsFailedTurn (faults_of side j) (held_in crew side x j) (turn_of side r)) (sym et)
        (a.there side (turn_of side r)
        (subst (λ x. IsFailedTurn (faults_of side i) (held_in crew side x i) (turn_of side r)) es (l.failed side (part_same side ∙ p))));
    saw = λ side p. subst (λ (c : Channel). ((turn_of side r).seen ≡ after c.publish (turn_of (other side) r).publish) ⊎
        ((turn_of side r).seen ≡ c.publish)) (channel_same (other side))
        (l.saw side (ap has_looked (part_same side) ∙ p));
    crossed = λ p q. subst (λ (c : Channel). (r.a.seen ≡ after t.b.publish r.b.publish) ⊎ (r.b.seen ≡ after c.publish r.a.publish))
        (channel_same A)
        (subst (λ (c : Channel). (r.a.seen ≡ after c.publish r.b.publish) ⊎ (r.b.seen ≡ after s.a.publish r.a.publish)) (channel_same B)
        (l.crossed (part_same A ∙ p) (part_same B ∙ q)));
  }

  behind_same : behind s i r ≡ behind t j r
  behind_same = lay_is s i r ∙ (lay_same r (a.fail A) (a.fail B) (part_same A) (part_same B) (channel_same A) (channel_same B)
      ∙ sym (lay_is t j r))

  after_same : erase (after_all config s (events_of s i r)) ≡ erase (after_all config t (events_of t j r))
  after_same =
      sym (after-erase config (next config s (Tick i)) (behind s i r) (behind_no_tick s i r))
      ∙ (ap (λ z. after_all config z (behind s i r)) ticks_alike
      ∙ (ap (after_all config (erase (next config t (Tick j)))) behind_same
      ∙ after-erase config (next config t (Tick j)) (behind t j r) (behind_no_tick t j r)))

-- ---- lists of rounds

pub snoc_inj : {X : Type 0} (xs ys : List X) (x y : X) → xs ++ x ∷ [] ≡ ys ++ y ∷ [] → (xs ≡ ys) × (x ≡ y)
snoc_inj [] [] x y e = (refl, cc)
snoc_inj [] (z ∷ []) x y e = absurd (cc)
snoc_inj [] (z ∷ w ∷ ys) x y e = absurd (cc)
snoc_inj (z ∷ []) [] x y e = absurd (cc)
snoc_inj (z ∷ w ∷ xs) [] x y e = absurd (cc)
snoc_inj (z ∷ xs) (w ∷ ys) x y e =
    let head : z ≡ w = cc in
    let tail : xs ++ x ∷ [] ≡ ys ++ y ∷ [] = cc in
    let h = snoc_inj xs ys x y tail in
    (ap (λ v. v ∷ xs) head ∙ ap (λ vs. w ∷ vs) h.0, h.1)

no_inputs : {config : Settings} {crew : List
    (Option Plan)} {P : List InputData} {rounds : List RoundData} {events : List Event} {s : State} → Legal config crew P rounds events s
    → P ≡ [] → (rounds ≡ []) × (s ≡ start)
no_inputs no_rounds e = (refl, refl)
no_inputs (then_round {inputs = []} legal input r ok) e = absurd (cc)
no_inputs (then_round {inputs = x ∷ xs} legal input r ok) e = absurd (cc)

pub record Last (config : Settings) (crew : List (Option Plan)) (P : List InputData) (i : InputData) (rounds : List RoundData)
    (s : State) : Type 0 where
  before : List RoundData
  events : List Event
  state : State
  legal : Legal config crew P before events state
  round : RoundData
  ok : IsLegalRound config crew state i round
  rounds_are : rounds ≡ before ++ round ∷ []
  state_is : s ≡ after_all config state (events_of state i round)

last_of : {config : Settings} {crew : List (Option Plan)} {R : List InputData} {rounds : List RoundData} {events : List Event} {s : State}
    (P : List InputData) (i : InputData) → Legal config crew R rounds events s → R ≡ P ++ i ∷ [] → Last config crew P i rounds s
last_of [] i no_rounds e = absurd (cc)
last_of (p ∷ P) i no_rounds e = absurd (cc)
last_of {config} {crew} P i (then_round {inputs} {rounds} {events} {s} legal input r ok) e =
    let h = snoc_inj inputs P input i e in
    record {
      before = rounds;
      events = events;
      state = s;
      legal = subst (λ x. Legal config crew x rounds events s) h.0 legal;
      round = r;
      ok = subst (λ x. IsLegalRound config crew s x r) h.1 ok;
      rounds_are = refl;
      state_is = ap (λ x. after_all config s (events_of s x r)) h.1;
    }

pub record Other (config : Settings) (crew : List (Option Plan)) (Q : List InputData) (rounds : List RoundData) (s : State) : Type 0 where
  events : List Event
  state : State
  legal : Legal config crew Q rounds events state
  like : erase s ≡ erase state

pub matched_legal : (config : Settings) (crew : List (Option Plan)) (P Q : List InputData) → Matched crew P Q
    → (rounds : List RoundData) (events : List Event) (s : State) → Legal config crew P rounds events s → Other config crew Q rounds s
matched_legal config crew _ _ none rounds events s legal =
    let h = no_inputs legal refl in
    record { events = []; state = start; legal = subst (λ rs. Legal config crew [] rs [] start) (sym h.0) no_rounds; like = ap erase h.1 }
matched_legal config crew _ _ (more {P} {Q} m i j a) rounds events s legal =
    let l = last_of P i legal refl in
    let o = matched_legal config crew P Q m l.before l.events l.state l.legal in
    let es = legal_trace config crew P l.before l.events l.state l.legal in
    let et = legal_trace config crew Q l.before o.events o.state o.legal in
    record {
      events = o.events ++ events_of o.state j l.round;
      state = after_all config o.state (events_of o.state j l.round);
      legal = subst (λ rs. Legal config crew (Q ++ j ∷ []) rs (o.events ++ events_of o.state j l.round)
          (after_all config o.state (events_of o.state j l.round))) (sym l.rounds_are)
          (then_round o.legal j l.round (round_same config crew P Q m l.state o.state es et o.like i j a l.round l.ok));
      like = ap erase l.state_is ∙ after_same config crew P Q m l.state o.state es et o.like i j a l.round;
    }

-- ---- the same script

alike_self : (crew : List (Option Plan)) (P : List InputData) (i : InputData) → Alike crew P P i i
alike_self crew P i = record {
  same = refl;
  fail = λ side. refl;
  hold = λ side. refl;
  exchange = λ side. refl;
  there = λ side u h. h;
  back = λ side u h. h;
}

matched_more : (crew : List (Option Plan)) (P more : List InputData) → Matched crew P P → Matched crew (P ++ more) (P ++ more)
matched_more crew P [] m = subst (λ xs. Matched crew xs xs) (sym (append-nil P)) m
matched_more crew P (x ∷ xs) m = subst (λ ys. Matched crew ys ys) (append_assoc P (x ∷ []) xs)
    (matched_more crew (P ++ x ∷ []) xs (more m x x (alike_self crew P x)))

-- ---- a deed as lines

keep_is : (o : Override) → is_keep o ≡ true → o ≡ Keep
keep_is Keep e = refl
keep_is Follow e = absurd (true≢false (sym e))
keep_is (Force k) e = absurd (true≢false (sym e))

pub either-none : (o : Option ℕ) → either o None ≡ o
either-none None = refl
either-none (Some n) = refl

pub order-keep : (o : Override) → order_of o Keep ≡ o
order-keep Keep = refl
order-keep Follow = refl
order-keep (Force k) = refl

silent_turn : (f : SideFaultData) (d : DeedData) (seen : ℕ) → is_silent f ≡ true
    → failed_turn f d seen ≡ failed_turn (inlined f d) idle seen
silent_turn f d seen h =
    let p = and_parts _ _ h in
    let q = and_parts _ _ p.0 in
    let a : f.publish ≡ None = none_is f.publish q.0 in
    let b : f.command ≡ None = none_is f.command q.1 in
    let c : f.contactor ≡ Keep = keep_is f.contactor p.1 in
    rw (a, b, c, either-none d.publish, either-none d.command, order-keep d.contactor) refl

first_deed : (told : List DeedData) (seen : ℕ) → IsDeed (Some (deeds told)) seen (get_or told 0 idle)
first_deed [] seen = refl
first_deed (x ∷ told) seen = refl

to_lines : (f : SideFaultData) (told : List DeedData) (u : TurnData) → is_silent f ≡ true → IsFailedTurn f (Some (deeds told)) u
    → IsFailedTurn (inlined f (get_or told 0 idle)) None u
to_lines f told u h t = record {
  deed = idle;
  told = refl;
  turned = t.turned ∙ (ap (λ d. failed_turn f d u.seen) (deed_of_list told 0 u.seen t.deed t.told)
      ∙ silent_turn f (get_or told 0 idle) u.seen h);
}

to_object : (f : SideFaultData) (told : List DeedData) (u : TurnData) → is_silent f ≡ true
    → IsFailedTurn (inlined f (get_or told 0 idle)) None u → IsFailedTurn f (Some (deeds told)) u
to_object f told u h t = record {
  deed = get_or told 0 idle;
  told = first_deed told u.seen;
  turned = t.turned ∙ (ap (λ d. failed_turn (inlined f (get_or told 0 idle)) d u.seen) t.told
      ∙ sym (silent_turn f (get_or told 0 idle) u.seen h));
}

-- ---- an input with other faults of a side

own_faults : (side : Side) (x : InputData) (f : SideFaultData) → faults_of side (with_faults side x f) ≡ f
own_faults A x f = refl
own_faults B x f = refl

other_faults : (side : Side) (x : InputData) (f : SideFaultData) → faults_of (other side) (with_faults side x f) ≡ faults_of (other side) x
other_faults A x f = refl
other_faults B x f = refl

same_bare : (side : Side) (x : InputData) (f : SideFaultData) → bare x ≡ bare (with_faults side x f)
same_bare A x f = refl
same_bare B x f = refl

by_side : (side : Side) (M : Side → Type 0) → M side → M (other side) → (y : Side) → M y
by_side A M a b A = a
by_side A M a b B = b
by_side B M a b A = b
by_side B M a b B = a

-- ---- tick by tick

record Boxed (crew : List (Option Plan)) (side : Side) (P Q : List InputData) (told : List DeedData) : Type 0 where
  matched : Matched crew P Q
  failed : has_failed side P ≡ true
  held : held_from crew side false None P ≡ Some (deeds told)
  empty : held_from crew side false None Q ≡ None
  others : held_from crew (other side) false None P ≡ held_from crew (other side) false None Q

module _ (crew : List (Option Plan)) (side : Side) (P Q : List InputData) (x : InputData) (told : List DeedData) (m : Matched crew P Q)
    (failing : failed_by (has_failed side P) (faults_of side x) ≡ true) (held : held_in crew side P x ≡ Some (deeds told))
    (empty : given crew None (faults_of side x).dismiss (held_from crew side false None Q) ≡ None)
    (others : held_from crew (other side) false None P ≡ held_from crew (other side) false None Q)
    (silent : is_silent (faults_of side x) ≡ true) where
  f : SideFaultData
  f = inlined (faults_of side x) (get_or told 0 idle)

  abbrev y : InputData
  y = with_faults side x (inlined (faults_of side x) (get_or told 0 idle))

  own : faults_of side y ≡ inlined (faults_of side x) (get_or told 0 idle)
  own = own_faults side x _

  others' : faults_of (other side) y ≡ faults_of (other side) x
  others' = other_faults side x _

  empty' : held_in crew side Q y ≡ None
  empty' = ap (λ (g : SideFaultData). given crew g.give g.dismiss (held_from crew side false None Q)) own ∙ empty

  held' : held_in crew (other side) P x ≡ held_in crew (other side) Q y
  held' = ap (given crew (faults_of (other side) x).give (faults_of (other side) x).dismiss) others
      ∙ ap (λ (g : SideFaultData). given crew g.give g.dismiss (held_from crew (other side) false None Q)) (sym others')

  alike : Alike crew P Q x y
  alike = record {
    same = same_bare side x _;
    fail = by_side side (λ z. (faults_of z x).fail ≡ (faults_of z y).fail) (ap (λ (g : SideFaultData). g.fail) (sym own))
        (ap (λ (g : SideFaultData). g.fail) (sym others'));
    hold = by_side side (λ z. (faults_of z x).hold ≡ (faults_of z y).hold) (ap (λ (g : SideFaultData). g.hold) (sym own))
        (ap (λ (g : SideFaultData). g.hold) (sym others'));
    exchange = by_side side (λ z. (faults_of z x).exchange ≡ (faults_of z y).exchange) (ap (λ (g : SideFaultData). g.exchange) (sym own))
        (ap (λ (g : SideFaultData). g.exchange) (sym others'));
    there = by_side side (λ z. (u : TurnData) → IsFailedTurn (faults_of z x) (held_in crew z P x) u
        → IsFailedTurn (faults_of z y) (held_in crew z Q y) u)
        (λ u h. subst (λ g. IsFailedTurn g (held_in crew side Q y) u) (sym own)
        (subst (λ o. IsFailedTurn (inlined (faults_of side x) (get_or told 0 idle)) o u) (sym empty')
        (to_lines (faults_of side x) told u silent (subst (λ o. IsFailedTurn (faults_of side x) o u) held h))))
        (λ u h. subst (λ g. IsFailedTurn g (held_in crew (other side) Q y) u) (sym others')
        (subst (λ o. IsFailedTurn (faults_of (other side) x) o u) held' h));
    back = by_side side (λ z. (u : TurnData) → IsFailedTurn (faults_of z y) (held_in crew z Q y) u
        → IsFailedTurn (faults_of z x) (held_in crew z P x) u)
        (λ u h. subst (λ o. IsFailedTurn (faults_of side x) o u) (sym held) (to_object (faults_of side x) told u silent
        (subst (λ o. IsFailedTurn (inlined (faults_of side x) (get_or told 0 idle)) o u) empty'
        (subst (λ g. IsFailedTurn g (held_in crew side Q y) u) own h))))
        (λ u h. subst (λ o. IsFailedTurn (faults_of (other side) x) o u) (sym held')
        (subst (λ g. IsFailedTurn g (held_in crew (other side) Q y) u) others' h));
  }

  boxed_step : Boxed crew side (P ++ x ∷ []) (Q ++ y ∷ []) (drop 1 told)
  boxed_step = record {
    matched = more m x y alike;
    failed = has_failed-push side false P x ∙ failing;
    held = held-append crew side false None P (x ∷ [])
        ∙ (acted_rest crew (has_failed side P) (faults_of side x) (held_from crew side false None P) failing
        ∙ (ap rest_of held ∙ rest-drop told));
    empty = held-append crew side false None Q (y ∷ [])
        ∙ (ap (λ o. cond (faults_of side y).exchange None (cond (failed_by (has_failed side Q) (faults_of side y)) (rest_of o) o)) empty'
        ∙ rest-none (faults_of side y).exchange (failed_by (has_failed side Q) (faults_of side y)));
    others = held-append crew (other side) false None P (x ∷ [])
        ∙ (ap (λ o. cond (faults_of (other side) x).exchange None
        (cond (failed_by (has_failed (other side) P) (faults_of (other side) x)) (rest_of o) o)) held'
        ∙ (ap (λ b. cond (faults_of (other side) x).exchange None
        (cond b (rest_of (held_in crew (other side) Q y)) (held_in crew (other side) Q y))) same_failed
        ∙ (ap (λ (g : SideFaultData). cond g.exchange None (cond (failed_by (has_failed (other side) Q) (faults_of (other side) y))
        (rest_of (held_in crew (other side) Q y)) (held_in crew (other side) Q y))) (sym others')
        ∙ sym (held-append crew (other side) false None Q (y ∷ [])))));
  }
    where
      same_failed : failed_by (has_failed (other side) P) (faults_of (other side) x)
          ≡ failed_by (has_failed (other side) Q) (faults_of (other side) y)
      same_failed = ap (λ b. failed_by b (faults_of (other side) x)) (fails_same crew P Q m (other side))
          ∙ ap (failed_by (has_failed (other side) Q)) (sym others')

inlined_cons : (side : Side) (x : InputData) (xs : List InputData) (told : List DeedData)
    → all_inlined side (x ∷ xs) told ≡ with_faults side x (inlined (faults_of side x) (get_or told 0 idle)) ∷ all_inlined side xs
    (drop 1 told)
inlined_cons side x xs [] = refl
inlined_cons side x xs (d ∷ told) = refl

pub given-none : (crew : List (Option Plan)) (d : Bool) → given crew None d None ≡ None
given-none crew true = refl
given-none crew false = refl

rest_matched : (crew : List (Option Plan)) (side : Side) (xs P Q : List InputData) (told : List DeedData) → Boxed crew side P Q told
    → all_silent side xs ≡ true → all_leave side xs ≡ true → Matched crew (P ++ xs) (Q ++ all_inlined side xs told)
rest_matched crew side [] P Q [] b s l = subst (λ x. Matched crew x (Q ++ [])) (sym (append-nil P))
    (subst (Matched crew P) (sym (append-nil Q)) b.matched)
rest_matched crew side [] P Q (d ∷ told) b s l = subst (λ x. Matched crew x (Q ++ [])) (sym (append-nil P))
    (subst (Matched crew P) (sym (append-nil Q)) b.matched)
rest_matched crew side (x ∷ xs) P Q told b s l =
    let ss = and_parts _ _ s in
    let ls = and_parts _ _ l in
    let step = boxed_step crew side P Q x told b.matched (ap (λ c. failed_by c (faults_of side x)) b.failed
    ∙ left_failed (faults_of side x) ls.0)
    (left_alone crew (faults_of side x) _ ls.0 ∙ b.held)
    (ap (given crew None (faults_of side x).dismiss) b.empty ∙ given-none crew (faults_of side x).dismiss) b.others ss.0 in
    let rest = rest_matched crew side xs _ _ (drop 1 told) step ss.1 ls.1 in
    subst (λ z. Matched crew z (Q ++ all_inlined side (x ∷ xs) told)) (append_assoc P (x ∷ []) xs)
    (subst (Matched crew ((P ++ x ∷ []) ++ xs)) (append_assoc Q (_ ∷ []) _ ∙ ap (λ z. Q ++ z) (sym (inlined_cons side x xs told))) rest)

pub inline_equals_boxed : InlineEqualsBoxed
inline_equals_boxed config crew boxed lines h rounds =
    let ss = and_parts _ _ h.silent in
    let held : held_in crew h.side h.past h.gift ≡ Some (deeds h.told) =
    ap (λ g. given crew g (faults_of h.side h.gift).dismiss (held_from crew h.side false None h.past)) h.gives ∙ h.tells in
    let step = boxed_step crew h.side h.past h.past h.gift h.told (matched_more crew [] h.past none) h.failed held h.empty refl ss.0 in
    let rest = rest_matched crew h.side h.more _ _ (drop 1 h.told) step ss.1 h.leaves in
    let all : Matched crew (h.past ++ h.gift ∷ h.more) (h.past ++ all_inlined h.side (h.gift ∷ h.more) h.told) =
    subst (λ z. Matched crew z (h.past ++ all_inlined h.side (h.gift ∷ h.more) h.told)) (append_assoc h.past (h.gift ∷ []) h.more)
    (subst (Matched crew ((h.past ++ h.gift ∷ []) ++ h.more))
    (append_assoc h.past (_ ∷ []) _ ∙ ap (λ z. h.past ++ z) (sym (inlined_cons h.side h.gift h.more h.told))) rest) in
    let both : Matched crew boxed lines =
    subst (λ z. Matched crew z lines) (sym h.boxes)
    (subst (Matched crew (h.past ++ h.gift ∷ h.more)) (sym h.inlines) all) in (
      λ l. (let o = matched_legal config crew _ _ both rounds l.events l.state l.legal in record {
        events = o.events;
        state = o.state;
        legal = o.legal;
      }),
      λ l. (let o = matched_legal config crew _ _ (turn_round both) rounds l.events l.state l.legal in record {
        events = o.events;
        state = o.state;
        legal = o.legal;
      }),
    )
