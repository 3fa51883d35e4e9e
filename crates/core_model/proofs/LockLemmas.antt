-- How a supervisor locks out, and what follows for runs.
use Rattle.std.proofs.Common.{◌≡◌, ◌≢◌, ℕ, ◌+◌, ◌^◌, ◌<◌, ◌≤◌, Bool, true, false, refl, sym, ap, ◌∙◌, subst, arith, inl, inr, cond, eqb, leb, List, [], ◌∷◌, ◌++◌, length, None}
use Rattle.std.specs.Prelude.{◌⊎◌, ◌||◌, ◌&&◌, not}
use Rattle.std.proofs.lemmas.Bool.{cases_Bool, cases_lt, and_parts, or_parts, true≢false, eq-eqb, eqb-true, not-true}
use Rattle.std.proofs.lemmas.Bool.Decides.{nat_tests}
use Rattle.std.proofs.lemmas.List.{append-nil, append_assoc}
use Rattle.lift_base.specs.declared.Kind.{Kind}
use Rattle.lift_base.specs.declared.Kind.TheVariants.{Off, Full, Up, Down}
use Rattle.lift_base.specs.declared.Side.{Side}
use Rattle.lift_base.specs.declared.Side.TheVariants.{A, B}
use Rattle.lift_model.specs.Records.{Settings, InputData}
use Rattle.core_model.proofs.EachTick.{at_each_tick}
use Rattle.core_model.proofs.EventLemmas.{or_false, failed_over-push}
use Rattle.core_model.proofs.RunLemmas.{run_holds}
use Rattle.core_model.proofs.WordLemmas.{kind_of-command}
use Rattle.core_model.specs.Decision.{Kept, Told, Decision, decided, renewed, counted, off_for, is_unlocking}
use Rattle.core_model.specs.History.{is_command, is_command_of, missed, Misses, no_misses, misses_by, misses_after, misses_over, is_locked_out, IsLockedOut, UnlocksOpen, AreOpen, StartsAreOpen}
use Rattle.core_model.specs.Machine.{Channel, State, commanded, may, enabled, does, Event, Tick, Step, Exchange, exchanged, side_of, next, told, present, start, settled_by}
use Rattle.core_model.specs.Runs.{is_fail, is_fail_of, is_exchange_of, failed_after, CoreRun, no_events, then_event, after_all}
use Rattle.core_model.specs.Settling.{Settled, effective, output, common}
use Rattle.core_model.specs.Words.{is_off, is_same, bit_of, kind_of, stamp_of, command_word}
use Rattle.core_model.specs.declared.SideStep.{SideStep}
use Rattle.core_model.specs.declared.SideStep.TheVariants.{Fail, Sample, Publish, Look, Command, RoguePublish, RogueCommand, RogueContactor}

-- ---- one decision

-- what is kept of a decision
pub record Keeps (k : Kept) (t : Told) (d : Decision) : Type 0 where
  pub misses : is_unlocking k t ≡ false → d.kept.misses ≡ counted (missed t) k.misses
  pub anew : is_unlocking k t ≡ true → d.kept.misses ≡ bit_of (missed t)
  pub last : d.kept.last ≡ d.command.kind
  pub stamp : d.command.stamp ≡ t.stamp
  pub locked : is_unlocking k t ≡ false → k.locked ≡ true → (d.kept.locked ≡ true) × (d.kept.last ≡ Off)
  pub locks : is_unlocking k t ≡ false → counted (missed t) k.misses ≡ 3 → (d.kept.locked ≡ true) × (d.kept.last ≡ Off)
  pub unlocks : is_unlocking k t ≡ true → d.kept.last ≡ Off
  pub starts : d.command.kind ≢ Off → is_off k.last ≡ true → (t.closed_a || t.closed_b) ≡ false

off_keeps : (k : Kept) (t : Told) (reason detail : ℕ) (d : Kept) → is_unlocking k t ≡ false
    → d.misses ≡ counted (missed t) k.misses → d.last ≡ Off → (k.locked ≡ true → d.locked ≡ true)
    → (counted (missed t) k.misses ≡ 3 → d.locked ≡ true)
    → Keeps k t (record { command = off_for t reason detail; kept = d })
off_keeps k t reason detail d u m l held locks = record {
  misses = λ _. m;
  anew = λ h. absurd (true≢false (sym h ∙ u));
  last = l;
  stamp = refl;
  locked = λ _ e. (held e, l);
  locks = λ _ e. (locks e, l);
  unlocks = λ _. l;
  starts = λ n. absurd (n refl);
}

-- which branch a decision takes
pub row_by : {X : Type 0} (P : X → Type 0) (b : Bool) (x y : X) → (b ≡ true → P x) → (b ≡ false → P y) → P (cond b x y)
row_by P true x y h k = h refl
row_by P false x y h k = k refl

decided-keeps : (k : Kept) (t : Told) → Keeps k t (decided k t)
decided-keeps k t =
    let r = renewed k t in
    row_by (Keeps k t) (is_unlocking k t) _ _ (λ e. record {
      misses = λ n. absurd (true≢false (sym e ∙ n));
      anew = λ _. refl;
      last = refl;
      stamp = refl;
      locked = λ n. absurd (true≢false (sym e ∙ n));
      locks = λ n. absurd (true≢false (sym e ∙ n));
      unlocks = λ _. refl;
      starts = λ n. absurd (n refl);
    })
    (λ u. row_by (Keeps k t) k.locked _ _ (λ e. off_keeps k t _ _ _ u refl refl (λ h. h) (λ _. e))
    (λ free. row_by (Keeps k t) (eqb r.misses 3 || eqb r.off_closed 3) _ _ (λ e. off_keeps k t _ _ _ u refl refl (λ _. refl) (λ _. refl))
    (λ few.
    let held : k.locked ≡ true → ⊥ = λ h. true≢false (sym h ∙ free) in
    let short : counted (missed t) k.misses ≡ 3 → ⊥ = λ h. true≢false (sym (eq-eqb _ _ h) ∙ (or_parts _ _ few).0) in
    let none = λ (reason detail : ℕ) (d : Kept) (m : d.misses ≡ counted (missed t) k.misses)
    (l : d.last ≡ Off). off_keeps k t reason detail d u m l (λ h. absurd (held h)) (λ h. absurd (short h)) in
    row_by (Keeps k t) (is_off t.own.kind) _ _ (λ e. none _ _ _ refl refl)
    (λ on. row_by (Keeps k t) (missed t) _ _ (λ e. none _ _ _ refl refl)
    (λ m. row_by (Keeps k t) (eqb r.on_open 3) _ _ (λ e. none _ _ _ refl refl)
    (λ shut. row_by (Keeps k t) (is_off k.last && (t.closed_a || t.closed_b)) _ _ (λ e. none _ _ _ refl refl)
    (λ no. row_by (Keeps k t) (not (is_off k.last) && not (is_same k.last t.own.kind)) _ _ (λ e. none _ _ _ refl refl)
    (λ e. record {
      misses = λ _. refl;
      anew = λ h. absurd (true≢false (sym h ∙ u));
      last = refl;
      stamp = refl;
      locked = λ _ h. absurd (held h);
      locks = λ _ h. absurd (short h);
      unlocks = λ h. absurd (true≢false (sym h ∙ u));
      starts = λ _ h. opened (is_off k.last) h no;
    }))))))))
  where
    opened : (b : Bool) → b ≡ true → (b && (t.closed_a || t.closed_b)) ≡ false → (t.closed_a || t.closed_b) ≡ false
    opened true h e = e
    opened false h e = absurd (true≢false (sym h))

-- ---- one command more

-- how what is kept stands with the misses that are counted, now and before the last Command
pub record Locks (k : Kept) (m : Misses) : Type 0 where
  pub most : m.now ≤ 3
  pub counts : m.now < 3 → k.misses ≡ m.now
  pub locked : m.now ≡ 3 → k.locked ≡ true
  pub off : (m.now ≡ 3) ⊎ (m.before ≡ 3) → k.last ≡ Off

bit_small : (b : Bool) → bit_of b < 3
bit_small true = omega arith
bit_small false = omega arith

pub one_more : (b : Bool) (n : ℕ) → n < 3 → cond b (n + 1) 0 ≤ 3
one_more true n few = omega (arith, few)
one_more false n few = omega arith

counted_few : (b : Bool) (n : ℕ) → n < 3 → counted b n ≡ cond b (n + 1) 0
counted_few true n few = grind (arith, nat_tests)
counted_few false n few = refl

pub not_three : (n : ℕ) → n ≤ 3 → eqb n 3 ≡ false → n < 3
not_three n most h = elim (cases_lt n 3) [
  | inl few ↦ few
  | inr all ↦ absurd (true≢false (sym (eq-eqb n 3 (omega arith)) ∙ h))
]

command_locks : (k : Kept) (t : Told) (m : Misses) → Locks k m
    → Locks (decided k t).kept (record { now = misses_by k t m.now; before = m.now })
command_locks k t m h =
    let d = decided-keeps k t in
    let goal : ℕ → Type 0 = λ n. Locks (decided k t).kept (record { now = n; before = m.now }) in
    row_by goal (is_unlocking k t) _ _ (λ u. record {
      most = omega (arith, bit_small (missed t));
      counts = λ _. d.anew u;
      locked = λ e. absurd (omega (arith, bit_small (missed t), e));
      off = λ _. d.unlocks u;
    })
    (λ u. row_by goal (eqb m.now 3) _ _ (λ full.
    let l = d.locked u (h.locked (eqb-true _ _ full)) in
    record { most = omega arith; counts = λ few. absurd (omega arith); locked = λ _. l.0; off = λ _. l.1 })
    (λ some.
    let few = not_three m.now h.most some in
    let same = ap (counted (missed t)) (h.counts few) ∙ counted_few (missed t) m.now few in
    record {
      most = one_more (missed t) m.now few;
      counts = λ _. d.misses u ∙ same;
      locked = λ e. (d.locks u (same ∙ e)).0;
      off = elim [ inl e ↦ (d.locks u (same ∙ e)).1 | inr e ↦ absurd (omega (arith, few, e)) ];
    }))

-- ---- over runs

pub after_all-append : (config : Settings) (s : State) (xs ys : List Event)
    → after_all config s (xs ++ ys) ≡ after_all config (after_all config s xs) ys
after_all-append config s [] ys = refl
after_all-append config s (x ∷ xs) ys = after_all-append config (next config s x) xs ys

-- a step that is neither Fail nor Command leaves a healthy side's supervisor and its word
stays_as_it_was : (config : Settings) (trace : List InputData) (path : List Settled) (peer : ℕ) (step : SideStep) (c : Channel)
    → may c (length trace) step ≡ true → is_command step ≡ false → is_fail step ≡ false → c.failed ≡ false
    → let d = does config trace path peer step c in (d.kept ≡ c.kept) × (d.command ≡ c.command) × (d.failed ≡ false)
stays_as_it_was config trace path peer Fail c on n f well = absurd (true≢false f)
stays_as_it_was config trace path peer Sample c on n f well = (refl, refl, well)
stays_as_it_was config trace path peer Publish c on n f well = (refl, refl, well)
stays_as_it_was config trace path peer Look c on n f well = (refl, refl, well)
stays_as_it_was config trace path peer Command c on n f well = absurd (true≢false n)
stays_as_it_was config trace path peer (RoguePublish word) c on n f well = (refl, refl, well)
stays_as_it_was config trace path peer (RogueCommand word) c on n f well = absurd (true≢false (sym on ∙ well))
stays_as_it_was config trace path peer (RogueContactor order) c on n f well = (refl, refl, well)

-- an event that is no Command of a healthy side leaves its supervisor and its word
pub unmoved : (config : Settings) (s : State) (side : Side) (e : Event) → enabled config s e ≡ true → is_command_of side e ≡ false
    → is_fail_of side e ≡ false → (side_of side s).failed ≡ false
    → ((side_of side (next config s e)).kept ≡ (side_of side s).kept)
    × ((side_of side (next config s e)).command ≡ (side_of side s).command) × ((side_of side (next config s e)).failed ≡ false)
unmoved config s A (Tick input) on n f well = (refl, refl, well)
unmoved config s A (Step A step) on n f well = stays_as_it_was config s.trace s.path s.b.publish step s.a on n f well
unmoved config s A (Step B step) on n f well = (refl, refl, well)
unmoved config s A (Exchange A) on n f well = absurd (true≢false (sym on ∙ well))
unmoved config s A (Exchange B) on n f well = (refl, refl, well)
unmoved config s B (Tick input) on n f well = (refl, refl, well)
unmoved config s B (Step A step) on n f well = (refl, refl, well)
unmoved config s B (Step B step) on n f well = stays_as_it_was config s.trace s.path s.a.publish step s.b on n f well
unmoved config s B (Exchange A) on n f well = (refl, refl, well)
unmoved config s B (Exchange B) on n f well = absurd (true≢false (sym on ∙ well))

-- a step that is no Command leaves what the supervisor keeps
keeps : (config : Settings) (trace : List InputData) (path : List Settled) (peer : ℕ) (step : SideStep) (c : Channel)
    → is_command step ≡ false → (does config trace path peer step c).kept ≡ c.kept
keeps config trace path peer Fail c n = refl
keeps config trace path peer Sample c n = refl
keeps config trace path peer Publish c n = refl
keeps config trace path peer Look c n = refl
keeps config trace path peer Command c n = absurd (true≢false n)
keeps config trace path peer (RoguePublish word) c n = refl
keeps config trace path peer (RogueCommand word) c n = refl
keeps config trace path peer (RogueContactor order) c n = refl

-- an event that is neither a Command nor an Exchange of the side leaves what its supervisor keeps
pub kept_stays : (config : Settings) (s : State) (side : Side) (e : Event) → is_command_of side e ≡ false → is_exchange_of side e ≡ false
    → (side_of side (next config s e)).kept ≡ (side_of side s).kept
kept_stays config s A (Tick input) n x = refl
kept_stays config s A (Step A step) n x = keeps config s.trace s.path s.b.publish step s.a n
kept_stays config s A (Step B step) n x = refl
kept_stays config s A (Exchange A) n x = absurd (true≢false x)
kept_stays config s A (Exchange B) n x = refl
kept_stays config s B (Tick input) n x = refl
kept_stays config s B (Step A step) n x = refl
kept_stays config s B (Step B step) n x = keeps config s.trace s.path s.a.publish step s.b n
kept_stays config s B (Exchange A) n x = refl
kept_stays config s B (Exchange B) n x = absurd (true≢false x)

pub command_is : (side : Side) (e : Event) → is_command_of side e ≡ true → e ≡ Step side Command
command_is A (Step A step) h = ap (Step A) (is_it step h) where
  is_it : (x : SideStep) → is_command x ≡ true → x ≡ Command
  is_it Command h = refl
  is_it x h = absurd (true≢false (sym h))
command_is B (Step B step) h = ap (Step B) (is_it step h) where
  is_it : (x : SideStep) → is_command x ≡ true → x ≡ Command
  is_it Command h = refl
  is_it x h = absurd (true≢false (sym h))
command_is side e h = absurd (true≢false (sym h))

-- a side that may make a Command is healthy
command_works : (config : Settings) (s : State) (side : Side) (e : Event) → is_command_of side e ≡ true → enabled config s e ≡ true
    → (side_of side s).failed ≡ false
command_works config s side e is on = not-true _ (and_parts _ _ (ap (enabled config s) (sym (command_is side e is)) ∙ on)).0

pub commands : (config : Settings) (s : State) (side : Side)
    → side_of side (next config s (Step side Command)) ≡ commanded (side_of side s) (told config s (side_of side s))
commands config s A = refl
commands config s B = refl

pub exchange_is : (side : Side) (e : Event) → is_exchange_of side e ≡ true → e ≡ Exchange side
exchange_is A (Exchange A) h = refl
exchange_is B (Exchange B) h = refl
exchange_is side e h = absurd (true≢false (sym h))

pub exchanges : (config : Settings) (s : State) (side : Side) → side_of side (next config s (Exchange side)) ≡ exchanged
exchanges config s A = refl
exchanges config s B = refl

-- ---- events that are enabled one after another

abbrev pub all_on : Settings → State → List Event → Bool
all_on config s [] = true
all_on config s (e ∷ events) = enabled config s e && all_on config (next config s e) events

pub all_on-append : (config : Settings) (s : State) (xs ys : List Event)
    → all_on config s (xs ++ ys) ≡ (all_on config s xs && all_on config (after_all config s xs) ys)
all_on-append config s [] ys = refl
all_on-append config s (x ∷ xs) ys = rw (all_on-append config (next config s x) xs ys) (assoc (enabled config s x)) where
  assoc : (b : Bool) → (b && (all_on config (next config s x) xs && all_on config (after_all config (next config s x) xs) ys))
      ≡ ((b && all_on config (next config s x) xs) && all_on config (after_all config (next config s x) xs) ys)
  assoc true = refl
  assoc false = refl

pub run_on : {config : Settings} {events : List Event} {s : State} → CoreRun config events s
    → (all_on config start events ≡ true) × (after_all config start events ≡ s)
run_on no_events = (refl, refl)
run_on {config} (then_event {events} {s} run e on) =
    let h = run_on run in (
      all_on-append config start events (e ∷ []) ∙ (rw (h.0, h.1, on) refl),
      after_all-append config start events (e ∷ [])
          ∙ ap (λ t. next config t e) h.1,
    )

module _ (config : Settings) (small : config.ticks < 2 ^ 24) where
  -- the word of a Command says what its supervisor keeps
  says_last : (events : List Event) (s : State) → CoreRun config events s → (side : Side)
      → let d = decided (side_of side s).kept (told config s (side_of side s)) in kind_of (command_word d.command) ≡ d.kept.last
  says_last events s run side =
      let h = run_holds config events s small run in
      let c = side_of side s in
      let k = decided-keeps c.kept (told config s c) in
      let d = decided c.kept (told config s c) in
      kind_of-command d.command (omega (arith, k.stamp, (h.sound side).stamp, h.few)) ∙ sym k.last

  -- the word of a healthy side says what its supervisor keeps
  pub said : (events : List Event) (s : State) → CoreRun config events s → (side : Side) → (side_of side s).failed ≡ false
      → kind_of (side_of side s).command ≡ (side_of side s).kept.last
  said _ _ no_events A f = refl
  said _ _ no_events B f = refl
  said _ _ (then_event {events} {s} run e on) side f =
      let before = run_holds config events s small run in
      let now = run_holds config (events ++ e ∷ []) (next config s e) small (then_event run e on) in
      let flag : failed_after side (side_of side s).failed e ≡ false = ap (λ b. failed_after side b e) (before.fails side)
      ∙ (sym (failed_over-push side false events e) ∙ (sym (now.fails side) ∙ f)) in
      let says = λ (d : Channel). kind_of d.command ≡ d.kept.last in
      elim (cases_Bool (is_exchange_of side e)) [
        | inl x ↦ subst says (sym (ap (λ y. side_of side (next config s y)) (exchange_is side e x) ∙ exchanges config s side)) refl
        | inr x ↦
            (let both = or_parts _ _ (ap (λ b. not b && ((side_of side s).failed || is_fail_of side e)) (sym x) ∙ flag) in
            elim (cases_Bool (is_command_of side e)) [
              | inl c ↦ subst says (sym (ap (λ y. side_of side (next config s y)) (command_is side e c) ∙ commands config s side))
                  (says_last events s run side)
              | inr c ↦ (let u = unmoved config s side e on c both.1 both.0 in
                  ap kind_of u.1 ∙ (said events s run side both.0 ∙ ap (λ (k : Kept). k.last) (sym u.0)))
            ])
      ]

  -- a healthy side whose word is Off settles Off
  off_settles : (s : State) (side : Side) → (side_of side s).forced ≡ None → kind_of (side_of side s).command ≡ Off
      → (settled_by s.a s.b (length s.trace + 1)).power ≡ Off
  off_settles s side free off = by_side side free off where
    effective-off : (w t : ℕ) → kind_of w ≡ Off → effective w t ≡ Off
    effective-off w t e = elim (cases_Bool (leb (stamp_of w) t && leb t (stamp_of w + 2))) [ inl h ↦ rw h e | inr h ↦ rw h refl ]

    common-left : (k : Kind) → common Off k ≡ Off
    common-left k = elim (cases_Bool (is_same Off k)) [ inl h ↦ rw h refl | inr h ↦ rw h refl ]

    common-right : (k : Kind) → common k Off ≡ Off
    common-right Off = refl
    common-right Full = refl
    common-right Up = refl
    common-right Down = refl

    out : (c : Channel) → c.forced ≡ None → kind_of c.command ≡ Off → (n : ℕ) → output c.forced c.command n ≡ Off
    out c f e n = ap (λ o. output o c.command n) f ∙ effective-off c.command n e

    by_side : (x : Side) → (side_of x s).forced ≡ None → kind_of (side_of x s).command ≡ Off
        → (settled_by s.a s.b (length s.trace + 1)).power ≡ Off
    by_side A f e = ap (λ k. common k (output s.b.forced s.b.command (length s.trace + 1))) (out s.a f e (length s.trace + 1))
        ∙ common-left (output s.b.forced s.b.command (length s.trace + 1))
    by_side B f e = ap (λ k. common (output s.a.forced s.a.command (length s.trace + 1)) k) (out s.b f e (length s.trace + 1))
        ∙ common-right (output s.a.forced s.a.command (length s.trace + 1))

  -- a healthy side that keeps Off settles Off
  last_off : (events : List Event) (s : State) → CoreRun config events s → (side : Side) → (side_of side s).failed ≡ false
      → (side_of side s).kept.last ≡ Off → (settled_by s.a s.b (length s.trace + 1)).power ≡ Off
  last_off events s run side f o = off_settles s side (((run_holds config events s small run).sound side).follows f)
      (said events s run side f ∙ o)

-- ---- the misses of a run

pub misses-append : (config : Settings) (side : Side) (s : State) (m : Misses) (xs ys : List Event)
    → misses_over config side s m (xs ++ ys) ≡ misses_over config side (after_all config s xs) (misses_over config side s m xs) ys
misses-append config side s m [] ys = refl
misses-append config side s m (x ∷ xs) ys = misses-append config side (next config s x) (misses_after config side s m x) xs ys

-- a failed side has none, and a healthy one keeps what they say
pub record Counted (m : Misses) (c : Channel) : Type 0 where
  pub failed : c.failed ≡ true → m ≡ no_misses
  pub healthy : c.failed ≡ false → Locks c.kept m

module _ (config : Settings) (small : config.ticks < 2 ^ 24) where
  -- one event more
  event_counts : (events : List Event) (s : State) → CoreRun config events s → (e : Event) → enabled config s e ≡ true → (side : Side)
      → (m : Misses) → Counted m (side_of side s) → Counted (misses_after config side s m e) (side_of side (next config s e))
  event_counts events s run e on side m h =
      let c = side_of side s in
      let before = run_holds config events s small run in
      let now = run_holds config (events ++ e ∷ []) (next config s e) small (then_event run e on) in
      let fails : (side_of side (next config s e)).failed ≡ failed_after side c.failed e = now.fails side
      ∙ (failed_over-push side false events e ∙ ap (λ b. failed_after side b e) (sym (before.fails side))) in
      let d = side_of side (next config s e) in
      let goal : Misses → Type 0 = λ n. Counted n d in
      row_by goal (is_exchange_of side e) _ _
      (λ x. let new : d ≡ exchanged = ap (λ y. side_of side (next config s y)) (exchange_is side e x) ∙ exchanges config s side in
      subst (Counted (record { now = 3; before = 3 })) (sym new) (record {
        failed = λ f. absurd (true≢false (sym f));
        healthy = λ _. record { most = omega arith; counts = λ few. absurd (omega arith); locked = λ _. refl; off = λ _. refl };
      }))
      (λ kept.
      let flag : d.failed ≡ (c.failed || is_fail_of side e) = fails
      ∙ ap (λ b. not b && (c.failed || is_fail_of side e)) kept in
      row_by goal (is_fail_of side e) _ _
      (λ f. record { failed = λ _. refl; healthy = λ well. absurd (true≢false (sym f ∙ (or_parts _ _ (sym flag ∙ well)).1)) })
      (λ fit.
      let same : d.failed ≡ c.failed = flag ∙ (ap (λ b. c.failed || b) fit ∙ or_false c.failed) in
      row_by goal (is_command_of side e) _ _
      (λ is.
      let new : d ≡ commanded c (told config s c) = ap (λ x. side_of side (next config s x)) (command_is side e is)
      ∙ commands config s side in
      let works : c.failed ≡ false = command_works config s side e is on in
      record {
        failed = λ f. absurd (true≢false (sym f ∙ (same ∙ works)));
        healthy = λ _. subst (λ k. Locks k (record { now = misses_by c.kept (told config s c) m.now; before = m.now }))
            (sym (ap (λ (x : Channel). x.kept) new)) (command_locks c.kept (told config s c) m (h.healthy works));
      })
      (λ other. record {
        failed = λ f. h.failed (sym same ∙ f);
        healthy = λ well. subst (λ k. Locks k m) (sym (kept_stays config s side e other kept)) (h.healthy (sym same ∙ well));
      })))

  pub run_counts : (events : List Event) (s : State) → CoreRun config events s → (side : Side)
      → Counted (misses_over config side start no_misses events) (side_of side s)
  run_counts _ _ no_events side = record {
    failed = λ _. refl;
    healthy = λ _. start_locks side;
  }
    where
      start_locks : (x : Side) → Locks (side_of x start).kept no_misses
      start_locks A = record { most = omega arith; counts = λ _. refl; locked = λ e. absurd (omega (arith, e)); off = λ _. refl }
      start_locks B = record { most = omega arith; counts = λ _. refl; locked = λ e. absurd (omega (arith, e)); off = λ _. refl }
  run_counts _ _ (then_event {events} {s} run e on) side =
      let m = misses_over config side start no_misses events in
      let one : misses_over config side start no_misses (events ++ e ∷ []) ≡ misses_after config side s m e =
      misses-append config side start no_misses events (e ∷ []) ∙ ap (λ t. misses_after config side t m e) (run_on run).1 in
      subst (λ n. Counted n (side_of side (next config s e))) (sym one)
      (event_counts events s run e on side m (run_counts events s run side))

  -- a tick at which a side is locked out settles Off
  pub locked_off : (events : List Event) (s : State) → CoreRun config events s → (side : Side) → is_locked_out config side events ≡ true
      → (settled_by s.a s.b (length s.trace + 1)).power ≡ Off
  locked_off events s run side out =
      let m = misses_over config side start no_misses events in
      let h = run_counts events s run side in
      elim (cases_Bool (side_of side s).failed) [
        | inl f ↦ absurd (true≢false (sym out ∙ ap (λ (n : Misses). eqb n.now 3 || eqb n.before 3) (h.failed f)))
        | inr f ↦ last_off config small events s run side f ((h.healthy f).off (three m.now m.before out))
      ] where
        three : (x y : ℕ) → (eqb x 3 || eqb y 3) ≡ true → (x ≡ 3) ⊎ (y ≡ 3)
        three x y e = elim (cases_Bool (eqb x 3)) [
          | inl k ↦ inl (eqb-true x 3 k)
          | inr k ↦ inr (eqb-true y 3 (ap (λ b. b || eqb y 3) (sym k) ∙ e))
        ]

pub run_locks_out : (config : Settings) (events : List Event) (s : State) → config.ticks < 2 ^ 24 → CoreRun config events s
    → IsLockedOut config events s.path
run_locks_out config events s small run t some old side out =
    at_each_tick config small (λ es st. (x : Side) → is_locked_out config x es ≡ true → st.power ≡ Off) (locked_off config small)
    events s run t some old side out

pub unlocks_open : UnlocksOpen
unlocks_open config s side h =
    let p = and_parts _ _ h in
    let q = and_parts _ _ p.0 in
    let r = and_parts _ _ q.0 in
    record { reset = r.1; open_a = open_kind (present s).a.kind q.1; open_b = open_kind (present s).b.kind p.1 }
  where
    open_kind : (k : Kind) → not (not (is_off k)) ≡ true → k ≡ Off
    open_kind Off h = refl
    open_kind Full h = absurd (true≢false (sym h))
    open_kind Up h = absurd (true≢false (sym h))
    open_kind Down h = absurd (true≢false (sym h))

pub starts_open : (config : Settings) (events : List Event) (s : State) → config.ticks < 2 ^ 24 → (side : Side) → CoreRun config events s
    → enabled config s (Step side Command) ≡ true → kind_of (side_of side s).command ≡ Off
    → kind_of (side_of side (next config s (Step side Command))).command ≢ Off → AreOpen s
starts_open config events s small side run on off started =
    let c = side_of side s in
    let t = told config s c in
    let works : c.failed ≡ false = not-true _ (and_parts _ _ on).0 in
    let k = decided-keeps c.kept t in
    let was : is_off c.kept.last ≡ true = ap is_off (sym (said config small events s run side works) ∙ off) in
    let says : kind_of (side_of side (next config s (Step side Command))).command ≡ (decided c.kept t).command.kind = ap
    (λ (d : Channel). kind_of d.command) (commands config s side) ∙ (says_last config small events s run side ∙ k.last) in
    let both = or_parts _ _ (k.starts (λ e. started (says ∙ e)) was) in
    (open_kind (present s).a.kind both.0, open_kind (present s).b.kind both.1)
  where
    open_kind : (k : Kind) → not (is_off k) ≡ false → k ≡ Off
    open_kind Off h = refl
    open_kind Full h = absurd (true≢false h)
    open_kind Up h = absurd (true≢false h)
    open_kind Down h = absurd (true≢false h)

-- ---- the fronts of a run

run_extend : {config : Settings} (events more : List Event) (s : State) → CoreRun config events s → all_on config s more ≡ true
    → CoreRun config (events ++ more) (after_all config s more)
run_extend {config} events [] s run on = subst (λ es. CoreRun config es s) (sym (append-nil events)) run
run_extend {config} events (e ∷ more) s run on =
    let o = and_parts _ _ on in
    subst (λ es. CoreRun config es (after_all config (next config s e) more)) (append_assoc events (e ∷ []) more)
    (run_extend (events ++ e ∷ []) more (next config s e) (then_event run e o.0) o.1)

-- a run goes on from each of its states
pub run_split : {config : Settings} {v : State} (events more : List Event) → CoreRun config (events ++ more) v
    → CoreRun config events (after_all config start events) × (all_on config (after_all config start events) more ≡ true)
    × (v ≡ after_all config (after_all config start events) more)
run_split {config} {v} events more run =
    let h = run_on run in
    let both = and_parts _ _ (sym (all_on-append config start events more) ∙ h.0) in
    (run_extend [] events start no_events both.0, both.1, sym h.1 ∙ after_all-append config start events more)

-- a Command of a run is enabled after the events before it, which are a run
pub before_command : (config : Settings) (before rest : List Event) (side : Side) (v : State)
    → CoreRun config (before ++ Step side Command ∷ rest) v
    → CoreRun config before (after_all config start before)
    × (enabled config (after_all config start before) (Step side Command) ≡ true)
before_command config before rest side v run =
    let h = run_split before (Step side Command ∷ rest) run in (h.0, (and_parts _ _ h.1).0)

pub run_starts_open : (config : Settings) (events : List Event) (v : State) → config.ticks < 2 ^ 24 → CoreRun config events v
    → StartsAreOpen config events
run_starts_open config events v small run before rest side e =
    let b = before_command config before rest side v (subst (λ es. CoreRun config es v) e run) in
    starts_open config before (after_all config start before) small side b.0 b.1
