-- The lock-out and the starts, said Command by Command: what follows of the sentences of their laws.
use Rattle.std.proofs.Common.{◌≡◌, ◌≢◌, ℕ, suc, ◌+◌, ◌-◌, ◌^◌, ◌<◌, ◌≤◌, Bool, true, false, refl, sym, ap, ◌∙◌, subst, arith, inl, inr, cond, eqb, List, [], ◌∷◌, ◌++◌, length, get_or}
use Rattle.std.specs.Prelude.{◌||◌, ◌&&◌, not, if◌then◌else◌}
use Rattle.std.proofs.lemmas.Bool.{cases_Bool, and_parts, or_parts, true≢false, eq-eqb, not-true}
use Rattle.std.proofs.lemmas.List.{length_push, get_or_push}
use Rattle.lift_model.specs.Enums.{Off, Side, A, B}
use Rattle.lift_model.specs.Records.{Settings, InputData}
use Rattle.core_model.proofs.EventLemmas.{before-new, ticks-append}
use Rattle.core_model.proofs.LockLemmas.{row_by, one_more, not_three, unmoved, kept_stays, command_is, commands, exchange_is, exchanges, after_all-append, all_on, all_on-append, run_on, run_split, before_command, said, misses-append, locked_off, starts_open}
use Rattle.core_model.proofs.RunLemmas.{run_holds}
use Rattle.core_model.specs.Decision.{Kept, Told, decided, is_unlocking, new_locked}
use Rattle.core_model.specs.History.{is_command_of, missed, Misses, no_misses, misses_by, misses_after, misses_over, is_locked_out, IsLockedOut, AreOpen, StartsAreOpen}
use Rattle.core_model.specs.Machine.{Channel, State, commanded, enabled, Event, Tick, Step, Exchange, side_of, next, told, present, start, settled_by}
use Rattle.core_model.specs.Runs.{is_fail_of, is_exchange_of, tick_count, before_tick, ever_failed, CoreRun, no_events, then_event, after_all}
use Rattle.core_model.specs.Settling.{Settled, no_settled}
use Rattle.core_model.specs.Words.{bit_of, kind_of}
use Rattle.core_model.specs.declared.SideStep.TheVariants.{Command}

-- ---- what a supervisor was told

-- what the side's supervisor is told at each Command of these events, where they begin in this state
abbrev pub tolds_from : Settings → Side → State → List Event → List Told
tolds_from config side s [] = []
tolds_from config side s (event ∷ events) =
    if is_command_of side event then told config s (side_of side s) ∷ tolds_from config side (next config s event) events
    else tolds_from config side (next config s event) events

-- what a supervisor keeps after it was told these
abbrev pub kept_after : Kept → List Told → Kept
kept_after k [] = k
kept_after k (t ∷ ts) = kept_after (decided k t).kept ts

-- a Command by the first row stands in the list, and a further one behind it
abbrev pub freed : Kept → List Told → Bool
freed k [] = false
freed k (t ∷ []) = false
freed k (t ∷ u ∷ ts) = is_unlocking k t || freed (decided k t).kept (u ∷ ts)

-- three that do not match, the second and the third not by the first row
pub record ThreeMisses (k : Kept) (x y z : Told) : Type 0 where
  pub first : missed x ≡ true
  pub second : missed y ≡ true
  pub third : missed z ≡ true
  pub second_locked : is_unlocking (kept_after k (x ∷ [])) y ≡ false
  pub third_locked : is_unlocking (kept_after k (x ∷ y ∷ [])) z ≡ false

tolds-append : (config : Settings) (side : Side) (s : State) (xs ys : List Event)
    → tolds_from config side s (xs ++ ys) ≡ tolds_from config side s xs ++ tolds_from config side (after_all config s xs) ys
tolds-append config side s [] ys = refl
tolds-append config side s (x ∷ xs) ys = elim (cases_Bool (is_command_of side x)) [
  | inl e ↦ rw (e, tolds-append config side (next config s x) xs ys) refl
  | inr e ↦ rw (e, tolds-append config side (next config s x) xs ys) refl
]

-- ---- the misses of what it was told

abbrev misses_told : Kept → Misses → List Told → Misses
misses_told k m [] = m
misses_told k m (t ∷ ts) = misses_told (decided k t).kept (record { now = misses_by k t m.now; before = m.now }) ts

no_exchange : (config : Settings) (s : State) (side : Side) (e : Event) → enabled config s e ≡ true → (side_of side s).failed ≡ false
    → is_exchange_of side e ≡ false
no_exchange config s side e on well = elim (cases_Bool (is_exchange_of side e)) [
  | inl x ↦ absurd (true≢false (sym on ∙ (ap (enabled config s) (exchange_is side e x) ∙ well)))
  | inr x ↦ x
]

-- the misses of a side that does not fail are those of what its supervisor was told
misses_from : (config : Settings) (side : Side) (events : List Event) (s : State) (m : Misses) → all_on config s events ≡ true
    → (side_of side s).failed ≡ false → ever_failed side events ≡ false
    → misses_over config side s m events ≡ misses_told (side_of side s).kept m (tolds_from config side s events)
misses_from config side [] s m on well f = refl
misses_from config side (e ∷ events) s m on well f =
    let o = and_parts _ _ on in
    let g = or_parts (is_fail_of side e) (ever_failed side events) f in
    let c = side_of side s in
    let x = no_exchange config s side e o.0 well in
    elim (cases_Bool (is_command_of side e)) [
      | inl is ↦
          (let same : side_of side (next config s e) ≡ commanded c (told config s c) = ap (λ y. side_of side (next config s y))
          (command_is side e is) ∙ commands config s side in
          let now : Misses = record { now = misses_by c.kept (told config s c) m.now; before = m.now } in
          let h = misses_from config side events (next config s e) now o.1 (ap (λ (d : Channel). d.failed) same ∙ well) g.1 in
          rw (x, g.0, is) (h ∙ ap (λ (d : Channel). misses_told d.kept now (tolds_from config side (next config s e) events)) same))
      | inr is ↦
          (let u = unmoved config s side e o.0 is g.0 well in
          let h = misses_from config side events (next config s e) m o.1 u.2 g.1 in
          rw (x, g.0, is) (h ∙ ap (λ k. misses_told k m (tolds_from config side (next config s e) events)) u.0))
    ]

-- at most three
most_by : (k : Kept) (t : Told) (n : ℕ) → n ≤ 3 → misses_by k t n ≤ 3
most_by k t n most = row_by (λ i. i ≤ 3) (is_unlocking k t) _ _ (λ _. few (missed t))
    (λ _. row_by (λ i. i ≤ 3) (eqb n 3) _ _ (λ _. omega arith) (λ some. one_more (missed t) n (not_three n most some))) where
      few : (b : Bool) → bit_of b ≤ 3
      few true = omega arith
      few false = omega arith

most_over : (config : Settings) (side : Side) (events : List Event) (s : State) (m : Misses) → m.now ≤ 3
    → (misses_over config side s m events).now ≤ 3
most_over config side [] s m most = most
most_over config side (e ∷ events) s m most =
    let few : Misses → Type 0 = λ n. n.now ≤ 3 in
    most_over config side events (next config s e) (misses_after config side s m e)
    (row_by few (is_exchange_of side e) _ _ (λ _. omega arith)
    (λ _. row_by few (is_fail_of side e) _ _ (λ _. omega arith)
    (λ _. row_by few (is_command_of side e) _ _ (λ _. most_by (side_of side s).kept (told config s (side_of side s)) m.now most)
    (λ _. most))))

-- a miss counts
some_by : (k : Kept) (t : Told) (n : ℕ) → missed t ≡ true → 0 < misses_by k t n
some_by k t n h = row_by (λ i. 0 < i) (is_unlocking k t) _ _ (λ _. subst (λ b. 0 < bit_of b) (sym h) (omega arith))
    (λ _. row_by (λ i. 0 < i) (eqb n 3) _ _ (λ _. omega arith)
    (λ _. subst (λ b. 0 < cond b (n + 1) 0) (sym h) (omega arith)))

-- one more than before, where it is not by the first row
more_by : (k : Kept) (t : Told) (n i : ℕ) → is_unlocking k t ≡ false → missed t ≡ true → i ≤ n → i < 3 → i < misses_by k t n
more_by k t n i u h some few = row_by (λ j. i < j) (is_unlocking k t) _ _ (λ e. absurd (true≢false (sym e ∙ u)))
    (λ _. row_by (λ j. i < j) (eqb n 3) _ _ (λ _. few) (λ _. subst (λ b. i < cond b (n + 1) 0) (sym h) (omega (arith, some))))

-- and three stay
held_by : (k : Kept) (t : Told) (n : ℕ) → is_unlocking k t ≡ false → n ≡ 3 → misses_by k t n ≡ 3
held_by k t n u e = row_by (λ i. i ≡ 3) (is_unlocking k t) _ _ (λ h. absurd (true≢false (sym h ∙ u)))
    (λ _. row_by (λ i. i ≡ 3) (eqb n 3) _ _ (λ _. refl) (λ h. absurd (true≢false (sym (eq-eqb n 3 e) ∙ h))))

-- three now, or before the last Command
abbrev is_full : Misses → Bool
is_full m = eqb m.now 3 || eqb m.before 3

full_now : (m : Misses) → m.now ≡ 3 → is_full m ≡ true
full_now m e = ap (λ b. b || eqb m.before 3) (eq-eqb m.now 3 e)

full_before : (m : Misses) → m.before ≡ 3 → is_full m ≡ true
full_before m e = ap (λ b. eqb m.now 3 || b) (eq-eqb m.before 3 e) ∙ or_true (eqb m.now 3) where
  or_true : (b : Bool) → (b || true) ≡ true
  or_true true = refl
  or_true false = refl

-- until it is freed
stays_full : (ts : List Told) (k : Kept) (m : Misses) → m.now ≡ 3 → freed k ts ≡ false → is_full (misses_told k m ts) ≡ true
stays_full [] k m e f = full_now m e
stays_full (t ∷ []) k m e f = full_before (record { now = misses_by k t m.now; before = m.now }) e
stays_full (t ∷ u ∷ ts) k m e f =
    let parts = or_parts _ _ f in
    stays_full (u ∷ ts) (decided k t).kept (record { now = misses_by k t m.now; before = m.now }) (held_by k t m.now parts.0 e) parts.1

three_full : (k : Kept) (m : Misses) (x y z : Told) (ts : List Told) → m.now ≤ 3 → ThreeMisses k x y z
    → freed (kept_after k (x ∷ y ∷ z ∷ [])) ts ≡ false → is_full (misses_told k m (x ∷ y ∷ z ∷ ts)) ≡ true
three_full k m x y z ts most miss free =
    let kx = (decided k x).kept in
    let ky = (decided kx y).kept in
    let one = misses_by k x m.now in
    let two = misses_by kx y one in
    let some : 0 < one = some_by k x m.now miss.first in
    let more : 1 < two = more_by kx y one 1 miss.second_locked miss.second (omega (arith, some)) (omega arith) in
    let all : 2 < misses_by ky z two = more_by ky z two 2 miss.third_locked miss.third (omega (arith, more)) (omega arith) in
    let no_more : misses_by ky z two ≤ 3 = most_by ky z two (most_by kx y one (most_by k x m.now most)) in
    stays_full ts (decided ky z).kept (record { now = misses_by ky z two; before = two }) (omega (arith, all, no_more)) free

-- ---- events after which a side is locked out

module _ (config : Settings) (before more : List Event) (side : Side) where
  -- A side is healthy after the first events, and three Commands in a row miss: it is locked out after further ones, while it does not
  -- fail, until it is freed.
  pub three_misses_lock_out : (events : List Event) (u : State) → CoreRun config (before ++ (events ++ more)) u
      → let s = after_all config start before in let t = after_all config s events in
      (side_of side s).failed ≡ false → ever_failed side (events ++ more) ≡ false
      → (x y z : Told) → tolds_from config side s events ≡ x ∷ y ∷ z ∷ [] → ThreeMisses (side_of side s).kept x y z
      → freed (kept_after (side_of side s).kept (x ∷ y ∷ z ∷ [])) (tolds_from config side t more) ≡ false
      → is_locked_out config side (before ++ (events ++ more)) ≡ true
  three_misses_lock_out events u run well f x y z ends miss free =
      let s = after_all config start before in
      let k = (side_of side s).kept in
      let m = misses_over config side start no_misses before in
      let later = tolds_from config side (after_all config s events) more in
      let on = (and_parts _ _ (sym (all_on-append config start before (events ++ more)) ∙ (run_on run).0)).1 in
      let told : tolds_from config side s (events ++ more) ≡ x ∷ y ∷ z ∷ later = tolds-append config side s events more
      ∙ ap (λ ts. ts ++ later) ends in
      let all : misses_over config side start no_misses (before ++ (events ++ more)) ≡ misses_told k m (x ∷ y ∷ z ∷ later) =
      misses-append config side start no_misses before (events ++ more)
      ∙ (misses_from config side (events ++ more) s m on well f ∙ ap (misses_told k m) told) in
      ap is_full all ∙ three_full k m x y z later (most_over config side before start no_misses (omega arith)) miss free

  -- A side was exchanged: the same of it.
  pub exchange_locks_out : (u : State) → CoreRun config (before ++ Exchange side ∷ more) u
      → let s = next config (after_all config start before) (Exchange side) in
      ever_failed side more ≡ false → freed new_locked (tolds_from config side s more) ≡ false
      → is_locked_out config side (before ++ Exchange side ∷ more) ≡ true
  exchange_locks_out u run f free =
      let old = after_all config start before in
      let s = next config old (Exchange side) in
      let full : Misses = record { now = 3; before = 3 } in
      let new = exchanges config old side in
      let on = (and_parts _ _ (and_parts _ _ (sym (all_on-append config start before (Exchange side ∷ more)) ∙ (run_on run).0)).1).1 in
      let all : misses_over config side start no_misses (before ++ Exchange side ∷ more)
      ≡ misses_told new_locked full (tolds_from config side s more) =
      misses-append config side start no_misses before (Exchange side ∷ more)
      ∙ (ap (λ m. misses_over config side s m more) (anew side old (misses_over config side start no_misses before))
      ∙ (misses_from config side more s full on (ap (λ (d : Channel). d.failed) new) f
      ∙ ap (λ (d : Channel). misses_told d.kept full (tolds_from config side s more)) new)) in
      ap is_full all ∙ stays_full (tolds_from config side s more) new_locked full refl free
    where
      anew : (x : Side) (t : State) (m : Misses) → misses_after config x t m (Exchange x) ≡ record { now = 3; before = 3 }
      anew A t m = refl
      anew B t m = refl

-- ---- what settles then

-- the next tick of a run after whose events a side is locked out
pub next_is_off : (config : Settings) (events : List Event) (u : State) → config.ticks < 2 ^ 24 → CoreRun config events u → (side : Side)
    → is_locked_out config side events ≡ true → (input : InputData) → (present (next config u (Tick input))).power ≡ Off
next_is_off config events u small run side out input =
    let now : Settled = settled_by u.a u.b (length u.trace + 1) in
    ap (λ (p : Settled). p.power) (get_or_push u.path now no_settled (length (u.path ++ now ∷ []) - 1)
    (omega (arith, length_push u.path now)))
    ∙ locked_off config small events u run side out

-- the tick of a longer run that comes after them
pub tick_is_off : (config : Settings) (all events rest : List Event) (input : InputData) (v : State) → config.ticks < 2 ^ 24
    → CoreRun config all v → IsLockedOut config all v.path → all ≡ events ++ Tick input ∷ rest → (side : Side)
    → is_locked_out config side events ≡ true → (get_or v.path (length (after_all config start events).path) no_settled).power ≡ Off
tick_is_off config all events rest input v small run law e side out =
    let u = after_all config start events in
    let whole = run_holds config all v small run in
    let part = run_holds config events u small (run_split events (Tick input ∷ rest) (subst (λ es. CoreRun config es v) e run)).0 in
    let count : tick_count all ≡ tick_count events + suc (tick_count rest) = ap tick_count e ∙ ticks-append events (Tick input ∷ rest) in
    let here : suc (tick_count events) - 1 ≡ length u.path = omega (arith, part.settled, part.ticks) in
    subst (λ n. (get_or v.path n no_settled).power ≡ Off) here
    (law (suc (tick_count events)) (omega arith) (omega (arith, whole.settled, whole.ticks, count)) side
    (ap (is_locked_out config side) (ap (before_tick (suc (tick_count events))) e ∙ before-new events (Tick input) rest refl) ∙ out))

-- Each tick of a run after three such misses of a side settles Off until the side is freed, and so does each after its exchange.
pub record LocksByCommands (config : Settings) (all : List Event) (path : List Settled) : Type 0 where
  pub missed : (before events more rest : List Event) (input : InputData)
      → all ≡ (before ++ (events ++ more)) ++ Tick input ∷ rest
      → let s = after_all config start before in let t = after_all config s events in let u = after_all config t more in
      (side : Side) → (side_of side s).failed ≡ false → ever_failed side (events ++ more) ≡ false
      → (x y z : Told) → tolds_from config side s events ≡ x ∷ y ∷ z ∷ [] → ThreeMisses (side_of side s).kept x y z
      → freed (kept_after (side_of side s).kept (x ∷ y ∷ z ∷ [])) (tolds_from config side t more) ≡ false
      → (get_or path (length u.path) no_settled).power ≡ Off
  pub exchanged : (before more rest : List Event) (input : InputData) (side : Side)
      → all ≡ (before ++ Exchange side ∷ more) ++ Tick input ∷ rest
      → let s = next config (after_all config start before) (Exchange side) in let u = after_all config s more in
      ever_failed side more ≡ false → freed new_locked (tolds_from config side s more) ≡ false
      → (get_or path (length u.path) no_settled).power ≡ Off

pub locks_by_commands : (config : Settings) (all : List Event) (v : State) → config.ticks < 2 ^ 24 → CoreRun config all v
    → IsLockedOut config all v.path → LocksByCommands config all v.path
locks_by_commands config all v small run law = record {
  missed = λ before events more rest input e side well f x y z ends miss free.
      let here = front (before ++ (events ++ more)) rest input e in
      let same = after_all-append config start before (events ++ more)
      ∙ after_all-append config (after_all config start before) events more in
      subst (λ (u : State). (get_or v.path (length u.path) no_settled).power ≡ Off) same
      (tick_is_off config all (before ++ (events ++ more)) rest input v small run law e side
      (three_misses_lock_out config before more side events _ here well f x y z ends miss free));
  exchanged = λ before more rest input side e f free.
      let here = front (before ++ Exchange side ∷ more) rest input e in
      subst (λ (u : State). (get_or v.path (length u.path) no_settled).power ≡ Off)
      (after_all-append config start before (Exchange side ∷ more))
      (tick_is_off config all (before ++ Exchange side ∷ more) rest input v small run law e side
      (exchange_locks_out config before more side _ here f free));
}
  where
    front : (events rest : List Event) (input : InputData) → all ≡ events ++ Tick input ∷ rest
        → CoreRun config events (after_all config start events)
    front events rest input e = (run_split events (Tick input ∷ rest) (subst (λ es. CoreRun config es v) e run)).0

-- ---- the first Command

-- whether the side has made a Command after this event, where it had before; an exchanged side has made none
abbrev pub commanded_after : Side → Bool → Event → Bool
commanded_after side had event = not (is_exchange_of side event) && (had || is_command_of side event)

-- whether it has after these
abbrev pub commanded_over : Side → Bool → List Event → Bool
commanded_over side had [] = had
commanded_over side had (event ∷ events) = commanded_over side (commanded_after side had event) events

commanded_over-push : (side : Side) (had : Bool) (events : List Event) (e : Event)
    → commanded_over side had (events ++ e ∷ []) ≡ commanded_after side (commanded_over side had events) e
commanded_over-push side had [] e = refl
commanded_over-push side had (x ∷ events) e = commanded_over-push side (commanded_after side had x) events e

-- the supervisor of a side that made no Command, at all or since its last Exchange, has Off as the command before
keeps_off : (config : Settings) (events : List Event) (s : State) → CoreRun config events s → (side : Side)
    → commanded_over side false events ≡ false → (side_of side s).kept.last ≡ Off
keeps_off config _ _ no_events A none = refl
keeps_off config _ _ no_events B none = refl
keeps_off config _ _ (then_event {events} {s} run e on) side none =
    let here : commanded_after side (commanded_over side false events) e ≡ false = sym (commanded_over-push side false events e) ∙ none in
    elim (cases_Bool (is_exchange_of side e)) [
      | inl x ↦ ap (λ (d : Channel). d.kept.last) (ap (λ y. side_of side (next config s y)) (exchange_is side e x)
          ∙ exchanges config s side)
      | inr x ↦
          (let both = or_parts _ _ (ap (λ b. not b && (commanded_over side false events || is_command_of side e)) (sym x) ∙ here) in
          ap (λ (k : Kept). k.last) (kept_stays config s side e both.1 x) ∙ keeps_off config events s run side both.0)
    ]

-- so its word says Off where its Command may come
pub first_says_off : (config : Settings) (events : List Event) (s : State) → config.ticks < 2 ^ 24 → (side : Side)
    → CoreRun config events s → enabled config s (Step side Command) ≡ true → commanded_over side false events ≡ false
    → kind_of (side_of side s).command ≡ Off
first_says_off config events s small side run on none =
    said config small events s run side (not-true _ (and_parts _ _ on).0) ∙ keeps_off config events s run side none

-- The first Command of a side, at all or since its exchange, that gives a kind finds both outputs Off: the command before it counts as Off.
pub starts_open_first : (config : Settings) (events : List Event) (s : State) → config.ticks < 2 ^ 24 → (side : Side)
    → CoreRun config events s → enabled config s (Step side Command) ≡ true → commanded_over side false events ≡ false
    → kind_of (side_of side (next config s (Step side Command))).command ≢ Off → AreOpen s
starts_open_first config events s small side run on none =
    starts_open config events s small side run on (first_says_off config events s small side run on none)

-- A Command of a run that goes from Off to a kind finds both outputs Off, and so does one that gives a kind and is the side's first.
pub record StartsByCommands (config : Settings) (all : List Event) : Type 0 where
  pub later : (before rest : List Event) (side : Side) → all ≡ before ++ Step side Command ∷ rest
      → let s = after_all config start before in kind_of (side_of side s).command ≡ Off
      → kind_of (side_of side (next config s (Step side Command))).command ≢ Off → AreOpen s
  pub first : (before rest : List Event) (side : Side) → all ≡ before ++ Step side Command ∷ rest
      → let s = after_all config start before in commanded_over side false before ≡ false
      → kind_of (side_of side (next config s (Step side Command))).command ≢ Off → AreOpen s

pub starts_by_commands : (config : Settings) (all : List Event) (v : State) → config.ticks < 2 ^ 24 → CoreRun config all v
    → StartsAreOpen config all → StartsByCommands config all
starts_by_commands config all v small run law = record {
  later = law;
  first = λ before rest side e none.
      let here = before_command config before rest side v (subst (λ es. CoreRun config es v) e run) in
      law before rest side e (first_says_off config before (after_all config start before) small side here.0 here.1 none);
}
