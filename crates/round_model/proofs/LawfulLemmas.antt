-- Lists of legal rounds: their events are core runs, undisturbed where the script is, and healthy where the script says so.
use Rattle.std.proofs.Common.{◌≡◌, ℕ, suc, ◌+◌, ◌-◌, ◌<◌, ◌≤◌, ◌^◌, Bool, true, false, refl, sym, ap, ◌∙◌, subst, arith, inl, inr, cond, List, [], ◌∷◌, ◌++◌, length, take, get_or, Option, Some, None, length-append}
use Rattle.std.specs.Prelude.{◌⊎◌, ◌||◌, ◌&&◌, not}
use Rattle.std.proofs.lemmas.Bool.{true≢false, false_from_ne_true, or_parts, cases_lt}
use Rattle.std.proofs.lemmas.List.{length_push, append-nil, append_assoc, take-append-le}
use Rattle.std.proofs.Math.Seq.{take-append_seam}
use Rattle.lift_base.specs.declared.Override.{Override}
use Rattle.lift_base.specs.declared.Override.TheVariants.{Keep, Follow, Force}
use Rattle.lift_base.specs.declared.Side.{Side}
use Rattle.lift_base.specs.declared.Side.TheVariants.{A, B}
use Rattle.lift_model.specs.Plans.{Plan}
use Rattle.lift_model.specs.Records.{Settings, InputData}
use Rattle.core_model.proofs.PlainLemmas.{run_settles}
use Rattle.core_model.proofs.EventLemmas.{ticks-push, ticks-more, failed-append, healthy-old, healthy-new}
use Rattle.core_model.proofs.RunLemmas.{run_holds}
use Rattle.core_model.specs.Backed.{Backed}
use Rattle.core_model.specs.Due.{IsUndisturbed, IsPlain, has_tick, turn, four_steps, is_step_of}
use Rattle.core_model.specs.Machine.{State, Event, Tick, Step}
use Rattle.core_model.specs.Runs.{CoreRun, no_events, is_tick, tick_count, ever_failed, failed_over, is_healthy_at}
use Rattle.core_model.specs.Settling.{no_settled}
use Rattle.round_model.proofs.LegalLemmas.{after_round, Between, round_runs, between_rounds, start_between}
use Rattle.round_model.proofs.RoundLemmas.{steps_after, run_steps}
use Rattle.round_model.specs.Events.{publish_act, command_act, contactor_act, acts, moves, fail_of, saw_new, events_of}
use Rattle.round_model.specs.Lawful.{Legal, no_rounds, then_round, LawfulIsBacked, LawfulIsPlain}
use Rattle.round_model.specs.Parts.{Part, Acting, Held, Failed, Exchanged, faults_of, failed_from, has_failed, part_of, FailsOnce, FailsOnceIn, CalmScript}
use Rattle.round_model.specs.Records.{TurnData, RoundData}
use Rattle.round_model.specs.Turns.{IsLegalRound}
use Rattle.core_model.specs.declared.SideStep.TheVariants.{Fail}

-- ---- runs

pub record Runs (config : Settings) (inputs : List InputData) (events : List Event) (s : State) : Type 0 where
  pub run : CoreRun config events s
  pub trace : s.trace ≡ inputs
  pub between : Between s

pub legal_round_runs : (config : Settings) (crew : List (Option Plan)) (inputs : List InputData) (events : List Event) (s : State)
    (input : InputData) (r : RoundData)
    → Runs config inputs events s → FailsOnce inputs input → length inputs < config.ticks → IsLegalRound config crew s input r
    → Runs config (inputs ++ input ∷ []) (events ++ events_of s input r) (after_round config s input r)
legal_round_runs config crew inputs events s input r h once room l =
    let once' : FailsOnce s.trace input = subst (λ past. FailsOnce past input) (sym h.trace) once in
    let room' : length s.trace < config.ticks = subst (λ (past : List InputData). length past < config.ticks) (sym h.trace) room in
    record {
      run = run_steps events _ h.run (round_runs config crew s input r h.between once' room' l);
      trace = ap (λ past. past ++ input ∷ []) h.trace;
      between = between_rounds config crew s input r h.between l;
    }

pub once_front : (inputs : List InputData) (input : InputData) → FailsOnceIn (inputs ++ input ∷ []) → FailsOnceIn inputs
once_front inputs input h past now more e = h past now (more ++ input ∷ [])
    (ap (λ xs. xs ++ input ∷ []) e ∙ append_assoc past (now ∷ more) (input ∷ []))

-- the rounds' events, joined, are a core run
pub legal_runs : (config : Settings) (crew : List (Option Plan)) (inputs : List InputData) (rounds : List RoundData) (events : List Event)
    (s : State)
    → Legal config crew inputs rounds events s → FailsOnceIn inputs → length inputs ≤ config.ticks → Runs config inputs events s
legal_runs config crew _ _ _ _ no_rounds once room = record { run = no_events; trace = refl; between = start_between }
legal_runs config crew _ _ _ _ (then_round {inputs} {rounds} {events} {s} legal input r l) once room =
    let longer = length_push inputs input in
    let h = legal_runs config crew inputs rounds events s legal (once_front inputs input once) (omega arith) in
    let once' : FailsOnce s.trace input = subst (λ past. FailsOnce past input) (sym h.trace) (once inputs input [] refl) in
    let room' : length s.trace < config.ticks = subst (λ (past : List InputData). length past < config.ticks) (sym h.trace) (omega arith) in
    subst (Runs config (inputs ++ input ∷ []) (events ++ events_of s input r))
    (steps_after (round_runs config crew s input r h.between once' room' l))
    (legal_round_runs config crew inputs events s input r h (once inputs input [] refl) (omega arith) l)

-- ---- lists of events

has_tick-append : (xs ys : List Event) → has_tick (xs ++ ys) ≡ (has_tick xs || has_tick ys)
has_tick-append [] ys = refl
has_tick-append (x ∷ xs) ys = rw (has_tick-append xs ys) (assoc (is_tick x)) where
  assoc : (b : Bool) → (b || (has_tick xs || has_tick ys)) ≡ ((b || has_tick xs) || has_tick ys)
  assoc true = refl
  assoc false = refl

no_ticks : (xs ys : List Event) → has_tick xs ≡ false → has_tick ys ≡ false → has_tick (xs ++ ys) ≡ false
no_ticks xs ys h k = has_tick-append xs ys ∙ (rw (h, k) refl)

acts_no_tick : (p : Part) (side : Side) (u : TurnData) → has_tick (acts p side u) ≡ false
acts_no_tick Acting side u = refl
acts_no_tick Held side u = refl
acts_no_tick Exchanged side u = refl
acts_no_tick Failed side u = no_ticks (publish_act side u.publish) (command_act side u.command ++ contactor_act side u.contactor)
    (publishes u.publish) (no_ticks (command_act side u.command) (contactor_act side u.contactor) (commands u.command)
    (orders u.contactor)) where
      publishes : (p : Option ℕ) → has_tick (publish_act side p) ≡ false
      publishes None = refl
      publishes (Some w) = refl

      commands : (p : Option ℕ) → has_tick (command_act side p) ≡ false
      commands None = refl
      commands (Some w) = refl

      orders : (o : Override) → has_tick (contactor_act side o) ≡ false
      orders Keep = refl
      orders Follow = refl
      orders (Force k) = refl

moves_no_tick : (p q : Part) (x y : Bool) (r : RoundData) → has_tick (moves p q x y r) ≡ false
moves_no_tick Acting Acting false y r = refl
moves_no_tick Acting Acting true false r = refl
moves_no_tick Acting Acting true true r = refl
moves_no_tick Acting q true y r = no_ticks (acts q B r.b) (four_steps A) (acts_no_tick q B r.b) refl
moves_no_tick Acting q false y r = acts_no_tick q B r.b
moves_no_tick p Acting x true r = no_ticks (acts p A r.a) (four_steps B) (acts_no_tick p A r.a) refl
moves_no_tick p Acting x false r = acts_no_tick p A r.a
moves_no_tick p q x y r = no_ticks (acts p A r.a) (acts q B r.b) (acts_no_tick p A r.a) (acts_no_tick q B r.b)

fail_no_tick : (side : Side) (b : Bool) → has_tick (cond b (Step side Fail ∷ []) []) ≡ false
fail_no_tick side true = refl
fail_no_tick side false = refl

-- what follows the Tick of a round
abbrev pub behind : State → InputData → RoundData → List Event
behind s input r = fail_of A input ++ (fail_of B input ++ moves (part_of A s.trace input) (part_of B s.trace input) (saw_new s r A)
    (saw_new s r B) r)

pub behind_no_tick : (s : State) (input : InputData) (r : RoundData) → has_tick (behind s input r) ≡ false
behind_no_tick s input r = no_ticks (fail_of A input) _ (fail_no_tick A input.faults.a.fail)
    (no_ticks (fail_of B input) _ (fail_no_tick B input.faults.b.fail) (moves_no_tick _ _ _ _ r))

-- a Tick of a list whose last Tick is known is that one or one before it
split_at : (events rest before more : List Event) (i j : InputData) → events ++ Tick i ∷ rest ≡ before ++ Tick j ∷ more
    → has_tick rest ≡ false
    → ((early : List Event) × (events ≡ before ++ Tick j ∷ early)) ⊎ (before ≡ events)
split_at [] rest [] more i j e n = inr refl
split_at [] rest (b ∷ before) more i j e n =
    let k : rest ≡ before ++ Tick j ∷ more = cc in
    absurd (true≢false (or_t (has_tick before) ∙ (sym (has_tick-append before (Tick j ∷ more)) ∙ (ap has_tick (sym k) ∙ n)))) where
      or_t : (b : Bool) → true ≡ (b || true)
      or_t true = refl
      or_t false = refl
split_at (x ∷ events) rest [] more i j e n = let k : x ≡ Tick j = cc in inl (events, ap (λ z. z ∷ events) k)
split_at (x ∷ events) rest (b ∷ before) more i j e n =
    let k : x ≡ b = cc in
    let tail : events ++ Tick i ∷ rest ≡ before ++ Tick j ∷ more = cc in
    elim (split_at events rest before more i j tail n) [
      | inl w ↦ inl (w.0, (let e' = w.1 in cc))
      | inr w ↦ inr (cc)
    ]

-- ---- healthy by the script, and in the run

count_no_tick : (xs ys : List Event) → has_tick ys ≡ false → tick_count (xs ++ ys) ≡ tick_count xs
count_no_tick xs [] n = ap tick_count (append-nil xs)
count_no_tick xs (y ∷ ys) n =
    let both = or_parts (is_tick y) (has_tick ys) n in
    ap tick_count (sym (append_assoc xs (y ∷ []) ys))
    ∙ (count_no_tick (xs ++ y ∷ []) ys both.1 ∙ (ticks-push xs y
    ∙ ap (λ b. cond b (suc (tick_count xs)) (tick_count xs)) both.0))

healthy-more : (side : Side) (events more : List Event) (t : ℕ) → 0 < t → t ≤ tick_count events
    → is_healthy_at side (events ++ more) t ≡ is_healthy_at side events t
healthy-more side events [] t a b = ap (λ es. is_healthy_at side es t) (append-nil events)
healthy-more side events (e ∷ more) t a b =
    ap (λ es. is_healthy_at side es t) (sym (append_assoc events (e ∷ []) more))
    ∙ (healthy-more side (events ++ e ∷ []) more t a (omega (arith, ticks-more events e)) ∙ healthy-old side events e t a b)

module _ (config : Settings) (crew : List (Option Plan)) (small : config.ticks < 2 ^ 24) where
  pub healthy_as_told : (inputs : List InputData) (rounds : List RoundData) (events : List Event) (s : State)
      → Legal config crew inputs rounds events s → FailsOnceIn inputs → length inputs ≤ config.ticks
      → (side : Side) (t : ℕ) → 0 < t → t ≤ length inputs → is_healthy_at side events t ≡ not (has_failed side (take (t - 1) inputs))
  healthy_as_told _ _ _ _ no_rounds once room side t a b = absurd (omega arith)
  healthy_as_told _ _ _ _ (then_round {inputs} {rounds} {events} {s} legal input r l) once room side t a b =
      let longer = length_push inputs input in
      let before = once_front inputs input once in
      let h = legal_runs config crew inputs rounds events s legal before (omega arith) in
      let k = run_holds config events s small h.run in
      let count : tick_count events ≡ length inputs = k.ticks ∙ ap length h.trace in
      elim (cases_lt (length inputs) t) [
        | inr old ↦
            (let cut : take (t - 1) (inputs ++ input ∷ []) ≡ take (t - 1) inputs =
            take-append-le (t - 1) inputs (input ∷ []) (omega arith) in
            healthy-more side events (events_of s input r) t a (omega (arith, count, old))
            ∙ (healthy_as_told inputs rounds events s legal before (omega arith) side t a old
            ∙ ap (λ xs. not (has_failed side xs)) (sym cut)))
        | inl new ↦
            (let last : t ≡ suc (tick_count events) = omega (arith, count, b) in
            let place : t - 1 ≡ length inputs = omega (arith, last, count) in
            let cut : take (t - 1) (inputs ++ input ∷ []) ≡ inputs = ap (λ n. take n (inputs ++ input ∷ [])) place
            ∙ take-append_seam inputs (input ∷ []) in
            let flag : not (failed_over side false events) ≡ not (has_failed side inputs) = ap not (sym (k.fails side))
            ∙ (ap not (h.between.failed side) ∙ ap (λ xs. not (has_failed side xs)) h.trace) in
            ap (λ n. is_healthy_at side (events ++ events_of s input r) n) last
            ∙ (ap (λ es. is_healthy_at side es (suc (tick_count events)))
            (sym (append_assoc events (Tick input ∷ []) (behind s input r)))
            ∙ (healthy-more side (events ++ Tick input ∷ []) (behind s input r) (suc (tick_count events)) (omega arith)
            (omega (arith, ticks-push events (Tick input)))
            ∙ (healthy-new side events (Tick input) refl ∙ (flag ∙ ap (λ xs. not (has_failed side xs)) (sym cut))))))
      ]

-- ---- undisturbed by the script, and in the run

turn-behind : (side : Side) (events : List Event) (input : InputData) (es : List Event)
    → turn side (events ++ Tick input ∷ es) ≡ turn side es
turn-behind A [] input es = refl
turn-behind B [] input es = refl
turn-behind side (x ∷ events) input es = rw (has_tick-append events (Tick input ∷ es), or_t (has_tick events), and_f (is_step_of side x))
    (turn-behind side events input es) where
      or_t : (b : Bool) → (b || true) ≡ true
      or_t true = refl
      or_t false = refl

      and_f : (b : Bool) → (b && false) ≡ false
      and_f true = refl
      and_f false = refl

-- both sides act
acting_turns : (side : Side) (x y : Bool) (r : RoundData) → (turn side (moves Acting Acting x y r) ≡ four_steps side)
    × (ever_failed side (moves Acting Acting x y r) ≡ false)
acting_turns A false y r = (refl, refl)
acting_turns A true false r = (refl, refl)
acting_turns A true true r = (refl, refl)
acting_turns B false y r = (refl, refl)
acting_turns B true false r = (refl, refl)
acting_turns B true true r = (refl, refl)

calm_front : (inputs : List InputData) (input : InputData) (t : ℕ) → CalmScript (inputs ++ input ∷ []) t → CalmScript inputs t
calm_front inputs input t h past now more e = h past now (more ++ input ∷ [])
    (ap (λ xs. xs ++ input ∷ []) e ∙ append_assoc past (now ∷ more) (input ∷ []))

never_failed : (inputs : List InputData) (t : ℕ) → CalmScript inputs t → length inputs < t → (side : Side) → has_failed side inputs ≡ false
never_failed inputs t h l side = from [] inputs refl where
  from : (past more : List InputData) → inputs ≡ past ++ more → failed_from side false more ≡ false
  from past [] e = refl
  from past (x ∷ more) e =
      let size : length inputs ≡ length past + length (x ∷ more) = ap length e ∙ length-append past (x ∷ more) in
      let f = (h past x more e (omega (arith, size)) side).0 in
      let and_f : (b : Bool) → (not b && false) ≡ false = elim [ true ↦ refl | false ↦ refl ] in
      rw (f, and_f (faults_of side x).exchange) (from (past ++ x ∷ []) more (e ∙ sym (append_assoc past (x ∷ []) more)))

-- what stands once all of these rounds are made, and none was disturbed
pub record Whole (events : List Event) (side : Side) : Type 0 where
  pub free : ever_failed side events ≡ false
  pub made : 0 < tick_count events → turn side events ≡ four_steps side

all_act : (s : State) (input : InputData) (r : RoundData) → ((side : Side) → has_failed side s.trace ≡ false)
    → ((side : Side) → (faults_of side input).exchange ≡ false)
    → ((side : Side) → ((faults_of side input).fail ≡ false) × ((faults_of side input).hold ≡ false))
    → behind s input r ≡ moves Acting Acting (saw_new s r A) (saw_new s r B) r
all_act s input r old kept now =
    let xa = kept A in
    let xb = kept B in
    let fa = (now A).0 in
    let fb = (now B).0 in
    let ha = (now A).1 in
    let hb = (now B).1 in
    rw (fa, fb, ha, hb, xa, xb, old A, old B) refl

tick_never_fails : (side : Side) (input : InputData) (es : List Event) → ever_failed side (Tick input ∷ es) ≡ ever_failed side es
tick_never_fails A input es = refl
tick_never_fails B input es = refl

module _ (config : Settings) (crew : List (Option Plan)) (small : config.ticks < 2 ^ 24) where
  counted : (inputs : List InputData) (rounds : List RoundData) (events : List Event) (s : State)
      → Legal config crew inputs rounds events s → FailsOnceIn inputs → length inputs ≤ config.ticks → tick_count events ≡ length inputs
  counted inputs rounds events s legal once room =
      let h = legal_runs config crew inputs rounds events s legal once room in
      (run_settles config events s small h.run).ticks ∙ ap length h.trace

  whole : (inputs : List InputData) (rounds : List RoundData) (events : List Event) (s : State) → Legal config crew inputs rounds events s
      → FailsOnceIn inputs → length inputs ≤ config.ticks
      → (t : ℕ) → CalmScript inputs t → length inputs < t → (side : Side) → Whole events side
  whole _ _ _ _ no_rounds once room t calm l side = record { free = refl; made = λ p. absurd (omega arith) }
  whole _ _ _ _ (then_round {inputs} {rounds} {events} {s} legal input r ok) once room t calm l side =
      let longer = length_push inputs input in
      let before = once_front inputs input once in
      let early = calm_front inputs input t calm in
      let h = legal_runs config crew inputs rounds events s legal before (omega arith) in
      let w = whole inputs rounds events s legal before (omega arith) t early (omega arith) side in
      let none : (x : Side) → has_failed x s.trace ≡ false = λ x. ap (has_failed x) h.trace ∙ never_failed inputs t early (omega arith) x in
      let kept : (x : Side) → (faults_of x input).exchange ≡ false = λ x. false_from_ne_true _
      (λ e. true≢false (sym (((once inputs input [] refl) x).exchanged e) ∙ never_failed inputs t early (omega arith) x)) in
      let both = all_act s input r none kept (calm inputs input [] refl (omega arith)) in
      let a = acting_turns side (saw_new s r A) (saw_new s r B) r in
      let rest : ever_failed side (Tick input ∷ behind s input r) ≡ false = tick_never_fails side input (behind s input r)
      ∙ (ap (ever_failed side) both ∙ a.1) in
      record {
        free = failed-append side events (events_of s input r)
            ∙ (ap (λ b. b || ever_failed side (Tick input ∷ behind s input r)) w.free ∙ rest);
        made = λ _. turn-behind side events input (behind s input r) ∙ (ap (turn side) both ∙ a.0);
      }

  splits : (inputs : List InputData) (rounds : List RoundData) (events : List Event) (s : State)
      → Legal config crew inputs rounds events s → FailsOnceIn inputs → length inputs ≤ config.ticks
      → (t : ℕ) → CalmScript inputs t → (before more : List Event) (j : InputData) → events ≡ before ++ Tick j ∷ more
      → tick_count before < t → (side : Side) → Whole before side
  splits _ _ _ _ no_rounds once room t calm [] more j e l side = absurd (cc)
  splits _ _ _ _ no_rounds once room t calm (b ∷ before) more j e l side = absurd (cc)
  splits _ _ _ _ (then_round {inputs} {rounds} {events} {s} legal input r ok) once room t calm before more j e l side =
      let longer = length_push inputs input in
      let once' = once_front inputs input once in
      let early = calm_front inputs input t calm in
      elim (split_at events (behind s input r) before more input j e (behind_no_tick s input r)) [
        | inl w ↦ splits inputs rounds events s legal once' (omega arith) t early before w.0 j w.1 l side
        | inr w ↦
            (let count : tick_count before ≡ length inputs = ap tick_count w ∙ counted inputs rounds events s legal once' (omega arith) in
            subst (λ es. Whole es side) (sym w) (whole inputs rounds events s legal once' (omega arith) t early
            (omega (arith, count, l)) side))
      ]

  -- a script that is undisturbed up to t makes an undisturbed run
  pub undisturbed_as_told : (inputs : List InputData) (rounds : List RoundData) (events : List Event) (s : State)
      → Legal config crew inputs rounds events s → FailsOnceIn inputs → length inputs ≤ config.ticks
      → (t : ℕ) → t ≤ length inputs → CalmScript inputs t → IsUndisturbed events t
  undisturbed_as_told inputs rounds events s legal once room t some calm = record {
    ticks = omega (arith, counted inputs rounds events s legal once room);
    whole = λ before after input e l side. (splits inputs rounds events s legal once room t calm before after input e l side).free;
    turns = λ before after input e p l side. (splits inputs rounds events s legal once room t calm before after input e l side).made p;
  }

-- ---- lawful runs

pub lawful_backed : LawfulIsBacked
lawful_backed config crew inputs rounds path script w t some old side healthy =
    let h = legal_runs config crew inputs rounds w.events w.state w.legal script.once script.room in
    let k = run_holds config w.events w.state script.small h.run in
    let long : length path ≡ length inputs = ap length w.same_path ∙ (k.settled ∙ ap length h.trace) in
    let long' : length path ≡ length w.state.path = ap length w.same_path in
    let e = healthy_as_told config crew script.small inputs rounds w.events w.state w.legal script.once script.room side t some
    (omega (arith, long)) in
    let b : Backed config w.state.trace t (get_or w.state.path (t - 1) no_settled) side =
    k.backed t some (omega (arith, long')) side (e ∙ healthy) in
    subst (λ p. Backed config inputs t (get_or p (t - 1) no_settled) side) (sym w.same_path)
    (subst (λ xs. Backed config xs t (get_or w.state.path (t - 1) no_settled) side) h.trace b)

pub lawful_plain : LawfulIsPlain
lawful_plain config crew inputs rounds path script w t some old calm =
    let h = legal_runs config crew inputs rounds w.events w.state w.legal script.once script.room in
    let k = run_settles config w.events w.state script.small h.run in
    let long : length path ≡ length inputs = ap length w.same_path ∙ (k.paths ∙ ap length h.trace) in
    let long' : length path ≡ length w.state.path = ap length w.same_path in
    let u = undisturbed_as_told config crew script.small inputs rounds w.events w.state w.legal script.once script.room t
    (omega (arith, long)) calm in
    let b : IsPlain config w.state.trace t (get_or w.state.path (t - 1) no_settled) = k.plain t some (omega (arith, long')) u in
    subst (λ p. IsPlain config inputs t (get_or p (t - 1) no_settled)) (sym w.same_path)
    (subst (λ xs. IsPlain config xs t (get_or w.state.path (t - 1) no_settled)) h.trace b)
