-- Where nothing disturbs a run, what is settled is what is due.
use Rattle.std.proofs.Common.{◌≡◌, ℕ, zero, suc, Bool, cond, ◌+◌, ◌-◌, ◌^◌, ◌<◌, ◌≤◌, true, false, refl, sym, ap, ◌∙◌, subst, arith, inl, inr, List, [], ◌∷◌, ◌++◌, length, take, get_or, None}
use Rattle.std.specs.Prelude.{◌&&◌, ◌||◌, not}
use Rattle.std.proofs.lemmas.Bool.{cases_Bool, ltb-true, true≢false, or_parts, cases_lt, eq-eqb}
use Rattle.std.proofs.lemmas.List.{length_push, get_or_append_left, get_or_push, length-take-le, nil_from_length}
use Rattle.lift_base.specs.Ruling.{Ruling}
use Rattle.lift_base.specs.declared.Kind.{Kind}
use Rattle.lift_base.specs.declared.Kind.TheVariants.{Off, Full, Up, Down}
use Rattle.lift_base.specs.declared.Side.{Side}
use Rattle.lift_base.specs.declared.Side.TheVariants.{A, B}
use Rattle.lift_model.specs.Grant.{grant}
use Rattle.lift_model.specs.Grant.{verdict_at_end}
use Rattle.lift_model.specs.Records.{Settings, InputData}
use Rattle.core_model.proofs.CalmLemmas.{Stage, Calm, event_calm, turn-tick, Undisturbed-front, due-old, due_command-old, shows, word}
use Rattle.core_model.proofs.DueLemmas.{calm}
use Rattle.core_model.proofs.EventLemmas.{ticks-push, failed-push}
use Rattle.core_model.proofs.MachineLemmas.{grant-old}
use Rattle.core_model.proofs.WordLemmas.{alarm_of-command}
use Rattle.core_model.specs.Due.{due, due_after, due_command, four_steps, IsUndisturbed, IsPlain}
use Rattle.core_model.specs.Machine.{Channel, State, Event, Tick, Step, Exchange, side_of, may, enabled, present, next, start, new_channel, settled_by}
use Rattle.core_model.specs.Runs.{CoreRun, no_events, then_event, is_tick, tick_count, is_fail, is_fail_of, ever_failed}
use Rattle.core_model.specs.Settling.{Settled, no_settled, output, common}
use Rattle.core_model.specs.Words.{CommandData, is_off, is_same, alarm_of, command_word, publish_word, kind_code}
use Rattle.core_model.specs.declared.SideStep.{SideStep}
use Rattle.core_model.specs.declared.SideStep.TheVariants.{Fail, Sample, Publish, Look, Command, RoguePublish, RogueCommand, RogueContactor}

pub record Settles (config : Settings) (events : List Event) (s : State) : Type 0 where
  pub paths : length s.path ≡ length s.trace
  pub ticks : tick_count events ≡ length s.trace
  pub few : length s.trace ≤ config.ticks
  pub fresh : length s.trace ≡ 0 → ((side : Side) → ever_failed side events ≡ false) → (side : Side) → side_of side s ≡ new_channel
  pub calm : (m : ℕ) → length s.trace ≡ suc m → IsUndisturbed events (suc m) → ((side : Side) → ever_failed side events ≡ false)
      → Calm config events s m
  pub plain : (t : ℕ) → 0 < t → t ≤ length s.path → IsUndisturbed events t → IsPlain config s.trace t (get_or s.path (t - 1) no_settled)

no_fail_before : (side : Side) (events : List Event) (e : Event) → ever_failed side (events ++ e ∷ []) ≡ false
    → (ever_failed side events ≡ false) × (is_fail_of side e ≡ false)
no_fail_before side events e h = or_parts _ _ (sym (failed-push side events e) ∙ h)

-- a step that is no Fail of its side is none of either
no_fail : (side : Side) (step : SideStep) → is_fail_of side (Step side step) ≡ false → is_fail step ≡ false
no_fail A step f = f
no_fail B step f = f

-- before the first tick a side can do nothing but fail
nothing_first : (c : Channel) (step : SideStep) → c ≡ new_channel → may c 0 step ≡ true → is_fail step ≡ false → ⊥
nothing_first c Fail new on f = true≢false f
nothing_first c Sample new on f = true≢false (sym on ∙ (rw new refl))
nothing_first c Publish new on f = true≢false (sym on ∙ (rw new refl))
nothing_first c Look new on f = true≢false (sym on ∙ (rw new refl))
nothing_first c Command new on f = true≢false (sym on ∙ (rw new refl))
nothing_first c (RoguePublish word) new on f = true≢false (sym on ∙ ap (λ (x : Channel). x.failed) new)
nothing_first c (RogueCommand word) new on f = true≢false (sym on ∙ ap (λ (x : Channel). x.failed) new)
nothing_first c (RogueContactor order) new on f = true≢false (sym on ∙ ap (λ (x : Channel). x.failed) new)

-- so no event but a Tick or a Fail may come
nothing_else_first : (config : Settings) (s : State) (e : Event) → length s.trace ≡ 0 → ((side : Side) → side_of side s ≡ new_channel)
    → is_tick e ≡ false → enabled config s e ≡ true → ((side : Side) → is_fail_of side e ≡ false) → ⊥
nothing_else_first config s (Tick input) none new still on f = true≢false still
nothing_else_first config s (Step side step) none new still on f =
    nothing_first (side_of side s) step (new side) (subst (λ (n : ℕ). may (side_of side s) n step ≡ true) none on)
    (no_fail side step (f side))
nothing_else_first config s (Exchange side) none new still on f = true≢false (sym on ∙ ap (λ (x : Channel). x.failed) (new side))

-- a step or an exchange leaves the trace and the path
pub same_trace : (config : Settings) (s : State) (e : Event) → is_tick e ≡ false
    → ((next config s e).trace ≡ s.trace) × ((next config s e).path ≡ s.path)
same_trace config s (Tick input) h = absurd (true≢false h)
same_trace config s (Step A step) h = (refl, refl)
same_trace config s (Step B step) h = (refl, refl)
same_trace config s (Exchange A) h = (refl, refl)
same_trace config s (Exchange B) h = (refl, refl)

step_settles : (config : Settings) (events : List Event) (s : State) → Settles config events s → (e : Event) → is_tick e ≡ false
    → enabled config s e ≡ true → Settles config (events ++ e ∷ []) (next config s e)
step_settles config events s h e still on =
    let same = same_trace config s e still in
    let count : tick_count (events ++ e ∷ []) ≡ tick_count events = ticks-push events e
    ∙ ap (λ b. cond b (suc (tick_count events)) (tick_count events)) still in
    let split = λ (f : (x : Side) → ever_failed x (events ++ e ∷ []) ≡ false) (x : Side). no_fail_before x events e (f x) in
    record {
      paths = rw (same.0, same.1) h.paths;
      ticks = rw same.0 (count ∙ h.ticks);
      few = rw same.0 h.few;
      fresh = λ z f x.
          (let none : length s.trace ≡ 0 = ap length (sym same.0) ∙ z in
          absurd (nothing_else_first config s e none (h.fresh none (λ y. (split f y).0)) still on (λ y. (split f y).1)));
      calm = λ m is u f.
          (let here : length s.trace ≡ suc m = ap length (sym same.0) ∙ is in
          let before = h.calm m here (Undisturbed-front events e (suc m) (omega (arith, h.ticks, here)) u) (λ x. (split f x).0) in
          event_calm config events s m here before e still on (λ x. (split f x).1));
      plain = λ t a b u.
          (let b' : t ≤ length s.path = subst (λ p. t ≤ length p) same.1 b in
          rw (same.0, same.1) (h.plain t a b' (Undisturbed-front events e t (omega (arith, h.ticks, h.paths)) u)));
    }

-- ---- a tick

-- both sides follow the due word of tick n when the next tick comes
pub record Ready (config : Settings) (trace : List InputData) (n : ℕ) (c : Channel) : Type 0 where
  pub free : c.forced ≡ None
  pub command : c.command ≡ command_word (due_command (grant config trace) n)

gives : (config : Settings) (trace : List InputData) (n : ℕ) (c : Channel) → n < 2 ^ 24 → Ready config trace n c
    → output c.forced c.command (n + 1) ≡ due (grant config trace) n
gives config trace n c small r = rw (r.free, r.command) (shows config trace n small)

same_self : (k : Kind) → common k k ≡ k
same_self k = let e : is_same k k ≡ true = eq-eqb (kind_code k) (kind_code k) refl in rw e refl

-- the alarm that is due sounds, and no other
settles_alarm : (vs : ℕ → Ruling) (n : ℕ) → n < 2 ^ 24
    → (not (is_off (due vs n)) && (alarm_of (command_word (due_command vs n)) || alarm_of (command_word (due_command vs n))))
    ≡ (due_command vs n).alarm
unfolding due
settles_alarm vs zero small = refl
settles_alarm vs (suc n) small = elim (cases_Bool (is_off (due vs (suc n)))) [
  | inl e ↦ rw e refl
  | inr e ↦
      (let granted : is_off (vs (suc n)).kind ≡ false = after_on (is_off (due vs n) || is_same (due vs n) (vs (suc n)).kind)
      (vs (suc n)).kind e in
      let r : (due_command vs (suc n)).reason ≡ 0 = rw (granted, e) refl in
      let d : (due_command vs (suc n)).detail ≡ 0 = rw granted refl in
      let a = alarm_of-command (due_command vs (suc n)) small (omega (arith, r)) (omega (arith, d)) in
      let x = alarm_of (command_word (due_command vs (suc n))) in
      ap (λ b. not b && (x || x)) e ∙ (or_same x ∙ a))
]
  where
    after_on : (c : Bool) (g : Kind) → is_off (cond c g Off) ≡ false → is_off g ≡ false
    after_on true g h = h
    after_on false g h = absurd (true≢false h)

    or_same : (b : Bool) → (b || b) ≡ b
    or_same true = refl
    or_same false = refl

settles_plain : (config : Settings) (trace : List InputData) (input : InputData) (a b : Channel) → length trace < 2 ^ 24
    → Ready config trace (length trace) a → Ready config trace (length trace) b
    → IsPlain config (trace ++ input ∷ []) (length trace + 1) (settled_by a b (length trace + 1))
settles_plain config trace input a b small ra rb =
    let n = length trace in
    let back : n + 1 - 1 ≡ n = omega arith in
    let due_is : due (grant config (trace ++ input ∷ [])) (n + 1 - 1) ≡ due (grant config trace) n = ap
    (due (grant config (trace ++ input ∷ []))) back ∙ due-old config trace (input ∷ []) n (omega arith) in
    let word_is : due_command (grant config (trace ++ input ∷ [])) (n + 1 - 1) ≡ due_command (grant config trace) n = ap
    (due_command (grant config (trace ++ input ∷ []))) back ∙ due_command-old config trace (input ∷ []) n (omega arith) in
    let out_a = gives config trace n a small ra in
    let out_b = gives config trace n b small rb in
    let power : (settled_by a b (n + 1)).power ≡ due (grant config (trace ++ input ∷ [])) (n + 1 - 1) = rw (out_a, out_b, due_is)
    (same_self (due (grant config trace) n)) in
    record {
      power = power;
      alarm = ap (λ k. not (is_off k) && (alarm_of a.command || alarm_of b.command)) (power ∙ due_is)
          ∙ (ap (λ w. not (is_off (due (grant config trace) n)) && (alarm_of w || alarm_of b.command)) ra.command
          ∙ (ap (λ w. not (is_off (due (grant config trace) n)) && (alarm_of (command_word (due_command (grant config trace) n))
          || alarm_of w)) rb.command
          ∙ (settles_alarm (grant config trace) n small ∙ ap (λ (c : CommandData). c.alarm) (sym word_is))));
      kinds = elim [ A ↦ out_a ∙ sym due_is | B ↦ out_b ∙ sym due_is ];
      free = elim [ A ↦ rw ra.free refl | B ↦ rw rb.free refl ];
      words = elim [ A ↦ ra.command ∙ ap command_word (sym word_is) | B ↦ rb.command ∙ ap command_word (sym word_is) ];
    }

-- at the end of a round, and before the first, a side is ready and stands at the beginning of the next
pub record Begins (config : Settings) (trace : List InputData) (c : Channel) : Type 0 where
  pub ready : Ready config trace (length trace) c
  pub stage : (input : InputData) → Stage config (trace ++ input ∷ []) (length trace) c 0

new_begins : (config : Settings) → Begins config [] new_channel
unfolding due verdict_at_end
new_begins config = record {
  ready = record { free = refl; command = refl };
  stage = λ input. record {
    well = refl;
    free = refl;
    phase = refl;
    stamp = refl;
    publish = refl;
    command = refl;
    kept = refl;
    looked = λ e. absurd (omega arith);
  };
}

done_begins : (config : Settings) (trace : List InputData) (m : ℕ) (c : Channel) → length trace ≡ suc m → Stage config trace m c 4
    → Begins config trace c
done_begins config trace m c here s = record {
  ready = record { free = s.free; command = s.command ∙ ap (λ n. command_word (due_command (grant config trace) n)) (sym here) };
  stage = λ input. record {
    well = s.well;
    free = s.free;
    phase = s.phase;
    stamp = s.stamp ∙ sym here;
    publish = s.publish ∙ (ap (word config trace) (sym here) ∙ ap (publish_word (length trace))
        (sym (grant-old config trace (input ∷ []) (length trace) (omega arith))));
    command = s.command ∙ (ap (λ n. command_word (due_command (grant config trace) n)) (sym here)
        ∙ ap command_word (sym (due_command-old config trace (input ∷ []) (length trace) (omega arith))));
    kept = s.kept ∙ (ap (λ n. calm (due (grant config trace) n)) (sym here)
        ∙ ap calm (sym (due-old config trace (input ∷ []) (length trace) (omega arith))));
    looked = λ e. absurd (omega arith);
  };
}

-- whole turns: four steps
four : (side : Side) (j : ℕ) → j ≤ 4 → take j (four_steps side) ≡ four_steps side → j ≡ 4
four side j few e = let long : length (take j (four_steps side)) ≡ j = length-take-le j (four_steps side) few in
    let full : length (take j (four_steps side)) ≡ 4 = ap length e in omega arith

module _ (config : Settings) (events : List Event) (s : State) (h : Settles config events s) (input : InputData)
    (small : config.ticks < 2 ^ 24) (u : IsUndisturbed (events ++ Tick input ∷ []) (length s.trace + 1)) where
  well : (side : Side) → ever_failed side events ≡ false
  well side = u.whole events [] input refl (omega (arith, h.ticks)) side

  -- every side stands at the end of its round
  begins : (side : Side) → Begins config s.trace (side_of side s)
  begins side = elim (cases_lt 0 (length s.trace)) [
    | inl some ↦
        (let m = length s.trace - 1 in
        let here : length s.trace ≡ suc m = omega arith in
        let c = (h.calm m here (Undisturbed-front events (Tick input) (suc m) (omega (arith, h.ticks)) (shorter m here)) well).side side in
        let j = four side c.0 c.1 (sym c.2 ∙ u.turns events [] input refl (omega (arith, h.ticks)) (omega (arith, h.ticks)) side) in
        done_begins config s.trace m (side_of side s) here (subst (Stage config s.trace m (side_of side s)) j c.3))
    | inr none ↦
        (let z : length s.trace ≡ 0 = omega arith in
        let empty : s.trace ≡ [] = nil_from_length s.trace z in
        let new = h.fresh z well side in
        rw (new, empty) (new_begins config))
  ]
    where
      shorter : (m : ℕ) → length s.trace ≡ suc m → IsUndisturbed (events ++ Tick input ∷ []) (suc m)
      shorter m here = record {
        ticks = omega (arith, u.ticks, here);
        whole = λ b a i e f side. u.whole b a i e (omega (arith, f, here)) side;
        turns = λ b a i e p f side. u.turns b a i e p (omega (arith, f, here)) side;
      }

  now_plain : IsPlain config (s.trace ++ input ∷ []) (length s.trace + 1) (settled_by s.a s.b (length s.trace + 1))
  now_plain = settles_plain config s.trace input s.a s.b (omega (arith, h.few)) (begins A).ready (begins B).ready

  now_calm : Calm config (events ++ Tick input ∷ []) (next config s (Tick input)) (length s.trace)
  now_calm =
      let back : length s.trace + 1 - 1 ≡ length s.trace = omega arith in
      let last : present (next config s (Tick input)) ≡ settled_by s.a s.b (length s.trace + 1) = get_or_push s.path
      (settled_by s.a s.b (length s.trace + 1)) no_settled (length (s.path ++ settled_by s.a s.b (length s.trace + 1) ∷ []) - 1)
      (omega (arith, length_push s.path (settled_by s.a s.b (length s.trace + 1)))) in
      record {
        side = elim [
          | A ↦ (0, omega arith, turn-tick A events (Tick input) refl refl, (begins A).stage input)
          | B ↦ (0, omega arith, turn-tick B events (Tick input) refl refl, (begins B).stage input)
        ];
        shown_a = ap (λ (p : Settled). p.a.kind) last ∙ (now_plain.kinds A ∙ ap (due (grant config (s.trace ++ input ∷ []))) back);
        shown_b = ap (λ (p : Settled). p.b.kind) last ∙ (now_plain.kinds B ∙ ap (due (grant config (s.trace ++ input ∷ []))) back);
      }

-- what was plain stays so
IsPlain-later : (config : Settings) (trace : List InputData) (input : InputData) (t : ℕ) (st : Settled) → 0 < t → t ≤ length trace
    → IsPlain config trace t st → IsPlain config (trace ++ input ∷ []) t st
IsPlain-later config trace input t st some old p =
    let d = due-old config trace (input ∷ []) (t - 1) (omega arith) in
    let w = due_command-old config trace (input ∷ []) (t - 1) (omega arith) in
    record {
      power = p.power ∙ sym d;
      alarm = p.alarm ∙ ap (λ (c : CommandData). c.alarm) (sym w);
      kinds = λ side. p.kinds side ∙ sym d;
      free = p.free;
      words = λ side. p.words side ∙ ap command_word (sym w);
    }

tick_settles : (config : Settings) (events : List Event) (s : State) → config.ticks < 2 ^ 24 → Settles config events s
    → (input : InputData) → length s.trace < config.ticks → Settles config (events ++ Tick input ∷ []) (next config s (Tick input))
tick_settles config events s small h input room =
    let now : Settled = settled_by s.a s.b (length s.trace + 1) in
    let count : tick_count (events ++ Tick input ∷ []) ≡ suc (tick_count events) = ticks-push events (Tick input) in
    let longer = length_push s.trace input in
    let path_longer = length_push s.path now in
    record {
      paths = omega (arith, h.paths);
      ticks = omega (arith, h.ticks);
      few = omega arith;
      fresh = λ z f side. absurd (omega arith);
      calm = λ m is u f.
          (let same : length s.trace ≡ m = omega arith in
          let one : suc m ≡ length s.trace + 1 = omega arith in
          subst (Calm config (events ++ Tick input ∷ []) (next config s (Tick input))) same (now_calm config events s h input small
          (subst (IsUndisturbed (events ++ Tick input ∷ [])) one u)));
      plain = λ t a b u. elim (cases_lt (length s.path) t) [
        | inr old ↦
            (let same : get_or (s.path ++ now ∷ []) (t - 1) no_settled ≡ get_or s.path (t - 1) no_settled = get_or_append_left s.path
            (now ∷ []) no_settled (t - 1) (omega arith) in
            rw same (IsPlain-later config s.trace input t (get_or s.path (t - 1) no_settled) a (omega (arith, h.paths))
            (h.plain t a old (Undisturbed-front events (Tick input) t (omega (arith, h.ticks, h.paths)) u))))
        | inl new ↦
            (let last : t ≡ length s.trace + 1 = omega (arith, h.paths, b) in
            let it : get_or (s.path ++ now ∷ []) (t - 1) no_settled ≡ now = get_or_push s.path now no_settled (t - 1)
            (omega (arith, last, h.paths)) in
            rw it (subst (λ n. IsPlain config (s.trace ++ input ∷ []) n now) (sym last) (now_plain config events s h input small
            (subst (IsUndisturbed (events ++ Tick input ∷ [])) last u))))
      ];
    }

event_settles : (config : Settings) (events : List Event) (s : State) → config.ticks < 2 ^ 24 → Settles config events s → (e : Event)
    → enabled config s e ≡ true → Settles config (events ++ e ∷ []) (next config s e)
event_settles config events s small h (Tick input) on = tick_settles config events s small h input (ltb-true _ _ on)
event_settles config events s small h (Step side step) on = step_settles config events s h (Step side step) refl on
event_settles config events s small h (Exchange side) on = step_settles config events s h (Exchange side) refl on

start_settles : (config : Settings) → Settles config [] start
start_settles config = record {
  paths = refl;
  ticks = refl;
  few = omega arith;
  fresh = λ z f. elim [ A ↦ refl | B ↦ refl ];
  calm = λ m is u f. absurd (omega arith);
  plain = λ t a b u. absurd (omega arith);
}

pub run_settles : (config : Settings) (events : List Event) (s : State) → config.ticks < 2 ^ 24 → CoreRun config events s
    → Settles config events s
run_settles config _ _ small no_events = start_settles config
run_settles config _ _ small (then_event {events} {s} run event e) = event_settles config events s small
    (run_settles config events s small run) event e

-- Up to a tick up to which nothing disturbs the run, what is settled is what is due.
pub run_plain : (config : Settings) (events : List Event) (s : State) → config.ticks < 2 ^ 24 → CoreRun config events s → (t : ℕ) → 0 < t
    → t ≤ length s.path → IsUndisturbed events t → IsPlain config s.trace t (get_or s.path (t - 1) no_settled)
run_plain config events s small run = (run_settles config events s small run).plain

-- a kind that is granted at two ticks in a row is due at the second
due_twice : (vs : ℕ → Ruling) (n : ℕ) → (vs (suc (suc n))).kind ≡ (vs (suc n)).kind → due vs (suc (suc n)) ≡ (vs (suc (suc n))).kind
unfolding due
due_twice vs n e = ap (λ k. due_after (due vs (suc n)) k) e
    ∙ (twice (is_off (due vs n) || is_same (due vs n) (vs (suc n)).kind) ∙ sym e) where
      same : (k : Kind) → due_after k k ≡ k
      same Off = refl
      same Full = refl
      same Up = refl
      same Down = refl

      twice : (b : Bool) → due_after (cond b (vs (suc n)).kind Off) (vs (suc n)).kind ≡ (vs (suc n)).kind
      twice true = same (vs (suc n)).kind
      twice false = refl

pub run_on : (config : Settings) (events : List Event) (s : State) → config.ticks < 2 ^ 24 → CoreRun config events s → (t : ℕ)
    → t + 2 ≤ length s.path → IsUndisturbed events (t + 2) → 0 < t
    → (grant config s.trace (t + 1)).kind ≡ (grant config s.trace t).kind → (get_or s.path (t + 1) no_settled).power
    ≡ (grant config s.trace t).kind
run_on config events s small run (suc n) old u some e =
    let vs = grant config s.trace in
    let one : suc n + 1 ≡ suc (suc n) = omega arith in
    let back : suc n + 2 - 1 ≡ suc (suc n) = omega arith in
    let k : (vs (suc (suc n))).kind ≡ (vs (suc n)).kind = ap (λ i. (vs i).kind) (sym one) ∙ e in
    let p = (run_plain config events s small run (suc n + 2) (omega arith) old u).power in
    ap (λ i. (get_or s.path i no_settled).power) (one ∙ sym back) ∙ (p ∙ (ap (due vs) back ∙ (due_twice vs n k ∙ k)))
run_on config events s small run zero old u some e = absurd (omega arith)
