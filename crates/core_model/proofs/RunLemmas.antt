-- The invariant over runs.
use Rattle.std.proofs.Common.{◌≡◌, ℕ, suc, cond, ◌+◌, ◌-◌, ◌^◌, ◌<◌, ◌≤◌, List, [], ◌∷◌, ◌++◌, length, get_or, Bool, true, false, refl, sym, ap, ◌∙◌, subst, arith, inl, inr}
use Rattle.std.specs.Prelude.{◌||◌}
use Rattle.std.proofs.lemmas.Bool.{true≢false, cases_lt, ltb-true, not-true}
use Rattle.std.proofs.lemmas.List.{length_push, get_or_append_left, get_or_push}
use Rattle.lift_base.specs.declared.Side.{Side}
use Rattle.lift_base.specs.declared.Side.TheVariants.{A, B}
use Rattle.lift_model.specs.Records.{Settings, InputData}
use Rattle.core_model.proofs.EventLemmas.{or_false, ticks-push, failed_over-push, healthy-old, healthy-new}
use Rattle.core_model.proofs.MachineLemmas.{Sound, Sound-later, settled_backed, commanded_sound, grant-old}
use Rattle.core_model.specs.Backed.{Backed, AllBacked}
use Rattle.core_model.specs.Machine.{Channel, State, Event, Tick, Step, Exchange, side_of, other, with_side, settled_by, may, enabled, does, next, start, new_channel, exchanged}
use Rattle.core_model.specs.Runs.{CoreRun, no_events, then_event, is_fail, is_tick, tick_count, failed_after, failed_over, is_healthy_at}
use Rattle.core_model.specs.Settling.{Settled, no_settled, out_at}
use Rattle.core_model.specs.Words.{stamp_of}
use Rattle.core_model.specs.declared.SideStep.{SideStep}
use Rattle.core_model.specs.declared.SideStep.TheVariants.{Fail, Sample, Publish, Look, Command, RoguePublish, RogueCommand, RogueContactor}

-- ---- the invariant

pub record Holds (config : Settings) (events : List Event) (s : State) : Type 0 where
  pub sound : (side : Side) → Sound config s.trace (side_of side s)
  pub settled : length s.path ≡ length s.trace
  pub ticks : tick_count events ≡ length s.trace
  pub few : length s.trace ≤ config.ticks
  pub fails : (side : Side) → (side_of side s).failed ≡ failed_over side false events
  pub backed : AllBacked config events s

-- a step of one side, or its exchange
module _ (config : Settings) (events : List Event) (s : State) (h : Holds config events s) (e : Event) (still : is_tick e ≡ false) where
  old_healthy : (side : Side) (t : ℕ) → 0 < t → t ≤ length s.path
      → is_healthy_at side (events ++ e ∷ []) t ≡ is_healthy_at side events t
  old_healthy side t a b = healthy-old side events e t a (omega (arith, h.ticks, h.settled))

  count : tick_count (events ++ e ∷ []) ≡ length s.trace
  count = ticks-push events e ∙ (ap (λ b. cond b (suc (tick_count events)) (tick_count events)) still ∙ h.ticks)

  fails_now : (side : Side) (c : Channel) → c.failed ≡ failed_after side (side_of side s).failed e
      → c.failed ≡ failed_over side false (events ++ e ∷ [])
  fails_now side c fails = fails ∙ (ap (λ b. failed_after side b e) (h.fails side) ∙ sym (failed_over-push side false events e))

  step_of : (side : Side) (c : Channel) → Sound config s.trace c → c.failed ≡ failed_after side (side_of side s).failed e
      → ((b : Bool) → b ≡ failed_after (other side) b e) → Holds config (events ++ e ∷ []) (with_side side s c)
  step_of A c sound fails others = record {
    sound = elim [ A ↦ sound | B ↦ h.sound B ];
    settled = h.settled;
    ticks = count;
    few = h.few;
    fails = elim [ A ↦ fails_now A c fails | B ↦ fails_now B s.b (others s.b.failed) ];
    backed = λ t a b side healthy. h.backed t a b side (sym (old_healthy side t a b) ∙ healthy);
  }
  step_of B c sound fails others = record {
    sound = elim [ A ↦ h.sound A | B ↦ sound ];
    settled = h.settled;
    ticks = count;
    few = h.few;
    fails = elim [ A ↦ fails_now A s.a (others s.a.failed) | B ↦ fails_now B c fails ];
    backed = λ t a b side healthy. h.backed t a b side (sym (old_healthy side t a b) ∙ healthy);
  }

-- what was backed stays so
Backed-later : (config : Settings) (trace rest : List InputData) (t : ℕ) (st : Settled) (side : Side) → t ≤ length trace
    → Backed config trace t st side → Backed config (trace ++ rest) t st side
Backed-later config trace rest t st side l b = elim b [
  | inl off ↦ inl off
  | inr on ↦
      (let n = stamp_of (out_at side st).word in
      let early : n ≤ length trace = elim on.age [ inl e ↦ omega (arith, e) | inr e ↦ omega (arith, e) ] in
      let now = grant-old config trace rest n early in
      let before = grant-old config trace rest (n - 1) (omega (arith, early)) in
      inr (record { age = on.age; granted = rw now on.granted; agreed = rw (now, before) on.agreed; signalled = rw now on.signalled }))
]

tick_holds : (config : Settings) (events : List Event) (s : State) → Holds config events s → (input : InputData)
    → length s.trace < config.ticks → Holds config (events ++ Tick input ∷ []) (next config s (Tick input))
tick_holds config events s h input room = record {
  sound = λ side. sound_of side;
  settled = omega (arith, h.settled, length_push s.path (settled_by s.a s.b (length s.trace + 1)), length_push s.trace input);
  ticks = omega (arith, ticks-push events (Tick input), h.ticks, length_push s.trace input);
  few = omega (arith, length_push s.trace input);
  fails = λ side. fails_of side;
  backed = λ t a b side healthy. elim (cases_lt (length s.path) t) [
    | inr old ↦
        (let same : get_or (s.path ++ now ∷ []) (t - 1) no_settled ≡ get_or s.path (t - 1) no_settled = get_or_append_left s.path
        (now ∷ []) no_settled (t - 1) (omega arith) in
        rw same (Backed-later config s.trace (input ∷ []) t (get_or s.path (t - 1) no_settled) side (omega (arith, h.settled))
        (h.backed t a old side (sym (healthy-old side events (Tick input) t a (omega (arith, h.ticks, h.settled))) ∙ healthy))))
    | inl new ↦
        (let last : t ≡ length s.trace + 1 = omega (arith, h.settled, b, length_push s.path now) in
        let place : length s.path ≡ t - 1 = omega (arith, last, h.settled) in
        let it : get_or (s.path ++ now ∷ []) (t - 1) no_settled ≡ now = get_or_push s.path now no_settled (t - 1) place in
        let here : t ≡ suc (tick_count events) = omega (arith, last, h.ticks) in
        let free : failed_over side false events ≡ false = not-true _ (sym (healthy-new side events (Tick input) refl)
        ∙ (ap (is_healthy_at side (events ++ Tick input ∷ [])) (sym here) ∙ healthy)) in
        rw it (subst (λ (n : ℕ). Backed config (s.trace ++ input ∷ []) n now side) (sym last)
        (settled_backed config s.trace input s.a s.b side (h.sound A) (h.sound B)
        (λ e. h.fails A ∙ (ap (λ x. failed_over x false events) (sym e) ∙ free))
        (λ e. h.fails B ∙ (ap (λ x. failed_over x false events) (sym e) ∙ free)))))
  ];
}
  where
    now : Settled
    now = settled_by s.a s.b (length s.trace + 1)

    sound_of : (side : Side) → Sound config (s.trace ++ input ∷ []) (side_of side (next config s (Tick input)))
    sound_of A = Sound-later config s.trace (input ∷ []) s.a (h.sound A)
    sound_of B = Sound-later config s.trace (input ∷ []) s.b (h.sound B)

    fails_of : (side : Side) → (side_of side (next config s (Tick input))).failed ≡ failed_over side false (events ++ Tick input ∷ [])
    fails_of A = h.fails A ∙ sym (failed_over-push A false events (Tick input) ∙ or_false (failed_over A false events))
    fails_of B = h.fails B ∙ sym (failed_over-push B false events (Tick input) ∙ or_false (failed_over B false events))

-- ---- a step

-- what a failed side does leaves nothing to hold of it
rogue : (config : Settings) (trace : List InputData) (c d : Channel) → Sound config trace c → c.failed ≡ true → d.failed ≡ c.failed
    → d.stamp ≡ c.stamp → Sound config trace d
rogue config trace c d sound f e k = record {
  stamp = omega (arith, sound.stamp, k);
  follows = λ h. absurd (true≢false (sym f ∙ (sym e ∙ h)));
  word = λ h. absurd (true≢false (sym f ∙ (sym e ∙ h)));
}

-- a step that a side may make leaves it sound
does_sound : (config : Settings) (trace : List InputData) (path : List Settled) (peer : ℕ) (step : SideStep) (c : Channel)
    → length trace < 2 ^ 24 → may c (length trace) step ≡ true → Sound config trace c
    → Sound config trace (does config trace path peer step c)
does_sound config trace path peer Fail c small on s =
    record { stamp = s.stamp; follows = λ e. absurd (true≢false e); word = λ e. absurd (true≢false e) }
does_sound config trace path peer Sample c small on s = record { stamp = omega arith; follows = s.follows; word = s.word }
does_sound config trace path peer Publish c small on s = record { stamp = s.stamp; follows = s.follows; word = s.word }
does_sound config trace path peer Look c small on s = record { stamp = s.stamp; follows = s.follows; word = s.word }
does_sound config trace path peer Command c small on s = commanded_sound config trace path c small s
does_sound config trace path peer (RoguePublish word) c small on s = rogue config trace c _ s on refl refl
does_sound config trace path peer (RogueCommand word) c small on s = rogue config trace c _ s on refl refl
does_sound config trace path peer (RogueContactor order) c small on s = rogue config trace c _ s on refl refl

does_failed : (config : Settings) (trace : List InputData) (path : List Settled) (peer : ℕ) (step : SideStep) (c : Channel)
    → (does config trace path peer step c).failed ≡ (c.failed || is_fail step)
does_failed config trace path peer Fail c = sym (or_true c.failed) where
  or_true : (b : Bool) → (b || true) ≡ true
  or_true true = refl
  or_true false = refl
does_failed config trace path peer Sample c = sym (or_false c.failed)
does_failed config trace path peer Publish c = sym (or_false c.failed)
does_failed config trace path peer Look c = sym (or_false c.failed)
does_failed config trace path peer Command c = sym (or_false c.failed)
does_failed config trace path peer (RoguePublish word) c = sym (or_false c.failed)
does_failed config trace path peer (RogueCommand word) c = sym (or_false c.failed)
does_failed config trace path peer (RogueContactor order) c = sym (or_false c.failed)

-- of an exchanged side all holds: it follows its word, which is Off
exchanged_sound : (config : Settings) (trace : List InputData) → Sound config trace exchanged
exchanged_sound config trace = record { stamp = omega arith; follows = λ h. refl; word = λ h. inl refl }

step_holds : (config : Settings) (events : List Event) (s : State) → Holds config events s → config.ticks < 2 ^ 24 → (event : Event)
    → enabled config s event ≡ true → Holds config (events ++ event ∷ []) (next config s event)
step_holds config events s h small (Tick input) on = tick_holds config events s h input (ltb-true _ _ on)
step_holds config events s h small (Step side step) on =
    let c = side_of side s in
    let peer = (side_of (other side) s).publish in
    step_of config events s h (Step side step) refl side (does config s.trace s.path peer step c)
    (does_sound config s.trace s.path peer step c (omega (arith, h.few)) on (h.sound side))
    (does_failed config s.trace s.path peer step c ∙ own side) (λ b. sym (or_false b) ∙ others side b)
  where
    own : (x : Side) → ((side_of x s).failed || is_fail step) ≡ failed_after x (side_of x s).failed (Step x step)
    own A = refl
    own B = refl

    others : (x : Side) (b : Bool) → (b || false) ≡ failed_after (other x) b (Step x step)
    others A b = refl
    others B b = refl
step_holds config events s h small (Exchange A) on = step_of config events s h (Exchange A) refl A exchanged
    (exchanged_sound config s.trace) refl (λ b. sym (or_false b))
step_holds config events s h small (Exchange B) on = step_of config events s h (Exchange B) refl B exchanged
    (exchanged_sound config s.trace) refl (λ b. sym (or_false b))

new_sound : (config : Settings) → Sound config [] new_channel
new_sound config = record { stamp = omega arith; follows = λ h. refl; word = λ h. inl refl }

start_holds : (config : Settings) → Holds config [] start
start_holds config = record {
  sound = elim [ A ↦ new_sound config | B ↦ new_sound config ];
  settled = refl;
  ticks = refl;
  few = omega arith;
  fails = elim [ A ↦ refl | B ↦ refl ];
  backed = λ t a b side healthy. absurd (omega arith);
}

-- After every run, for each tick and each side that is healthy at it, the power that was settled is backed.
pub run_holds : (config : Settings) (events : List Event) (s : State) → config.ticks < 2 ^ 24 → CoreRun config events s
    → Holds config events s
run_holds config _ _ small no_events = start_holds config
run_holds config _ _ small (then_event {events} {s} run event on) = step_holds config events s
    (run_holds config events s small run) small event on

pub run_backed : (config : Settings) (events : List Event) (s : State) → config.ticks < 2 ^ 24 → CoreRun config events s
    → AllBacked config events s
run_backed config events s small run = (run_holds config events s small run).backed
