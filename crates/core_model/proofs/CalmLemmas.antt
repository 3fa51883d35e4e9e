-- A run that nothing disturbs settles what is due.
use Rattle.std.proofs.Common.{◌≡◌, ℕ, zero, suc, ◌+◌, ◌-◌, ◌^◌, ◌<◌, ◌≤◌, Bool, true, false, refl, sym, ap, ◌∙◌, subst, arith, inl, inr, cond, leb, List, [], ◌∷◌, ◌++◌, length, take, None}
use Rattle.std.specs.Prelude.{◌⊎◌, ◌||◌, ◌&&◌, not}
use Rattle.std.proofs.lemmas.Bool.{cases_Bool, and_parts, ltb-true, true≢false, or_left, or_right, eq-eqb, le-leb}
use Rattle.std.proofs.lemmas.List.{append-nil, append_assoc}
use Rattle.lift_base.specs.Ruling.{Ruling}
use Rattle.lift_base.specs.declared.Phase.{Phase}
use Rattle.lift_base.specs.declared.Phase.TheVariants.{Rest, Sampled, Published, Looked}
use Rattle.lift_base.specs.declared.Side.{Side}
use Rattle.lift_base.specs.declared.Side.TheVariants.{A, B}
use Rattle.lift_model.specs.Grant.{grant}
use Rattle.lift_model.specs.Records.{Settings, InputData}
use Rattle.core_model.proofs.DueLemmas.{calm, command_for, decided-calm}
use Rattle.core_model.proofs.MachineLemmas.{grant-old}
use Rattle.core_model.proofs.WordLemmas.{stamp_of-command, kind_of-command}
use Rattle.core_model.specs.Decision.{Told, decided}
use Rattle.core_model.specs.Due.{due, due_after, due_command, is_of_round, is_step_of, has_tick, turn, four_steps, IsUndisturbed}
use Rattle.core_model.specs.Machine.{Channel, State, Event, Tick, Step, Exchange, side_of, other, with_side, is_rest, is_sampled, is_published, is_looked, enabled, present, told, sampled, published, looked, commanded, next}
use Rattle.core_model.specs.Runs.{is_tick, tick_count, is_fail, is_fail_of}
use Rattle.core_model.specs.Settling.{effective}
use Rattle.core_model.specs.Words.{is_off, stamp_of, publish_word, command_word, matches}
use Rattle.core_model.specs.declared.SideStep.{SideStep}
use Rattle.core_model.specs.declared.SideStep.TheVariants.{Fail, Sample, Publish, Look, Command, RoguePublish, RogueCommand, RogueContactor}

-- ---- the turn of a side

has_tick-push : (events : List Event) (e : Event) → has_tick (events ++ e ∷ []) ≡ (has_tick events || is_tick e)
has_tick-push [] e = or_f (is_tick e) where
  or_f : (b : Bool) → (b || false) ≡ b
  or_f true = refl
  or_f false = refl
has_tick-push (x ∷ events) e = rw (has_tick-push events e) (assoc (is_tick x)) where
  assoc : (b : Bool) → (b || (has_tick events || is_tick e)) ≡ ((b || has_tick events) || is_tick e)
  assoc true = refl
  assoc false = refl

pub turn-tick : (side : Side) (events : List Event) (e : Event) → is_tick e ≡ true → is_step_of side e ≡ false
    → turn side (events ++ e ∷ []) ≡ []
turn-tick side [] e h k = rw k refl
turn-tick side (x ∷ events) e h k = rw (
  has_tick-push events e,
  h,
  or_t (has_tick events),
  and_f (is_step_of side x),
  turn-tick side events e h k,
) refl where
  or_t : (b : Bool) → (b || true) ≡ true
  or_t true = refl
  or_t false = refl

  and_f : (b : Bool) → (b && false) ≡ false
  and_f true = refl
  and_f false = refl

turn-push : (side : Side) (events : List Event) (e : Event) → is_tick e ≡ false
    → turn side (events ++ e ∷ []) ≡ turn side events ++ cond (is_step_of side e) (e ∷ []) []
turn-push side [] e h = elim (cases_Bool (is_step_of side e)) [ inl k ↦ rw k refl | inr k ↦ rw k refl ]
turn-push side (x ∷ events) e h = rw (has_tick-push events e, h, or_f (has_tick events), turn-push side events e h)
    (case (is_step_of side x && not (has_tick events))) where
      or_f : (b : Bool) → (b || false) ≡ b
      or_f true = refl
      or_f false = refl

      case : (b : Bool) → cond b (x ∷ (turn side events ++ cond (is_step_of side e) (e ∷ []) [])) (turn side events
          ++ cond (is_step_of side e) (e ∷ []) []) ≡ cond b (x ∷ turn side events) (turn side events) ++ cond (is_step_of side e)
          (e ∷ []) []
      case true = refl
      case false = refl

-- ---- how far a side has come in its round

abbrev pub phase_at : ℕ → Phase
phase_at zero = Rest
phase_at (suc zero) = Sampled
phase_at (suc (suc zero)) = Published
phase_at (suc (suc (suc zero))) = Looked
phase_at (suc (suc (suc (suc n)))) = Rest

-- the tick before, until step i is made
abbrev pub since : ℕ → ℕ → ℕ → ℕ
since i j m = cond (leb i j) (suc m) m

abbrev pub word : Settings → List InputData → ℕ → ℕ
word config trace n = publish_word n (grant config trace n)

pub record Stage (config : Settings) (trace : List InputData) (m : ℕ) (c : Channel) (j : ℕ) : Type 0 where
  pub well : c.failed ≡ false
  pub free : c.forced ≡ None
  pub phase : c.phase ≡ phase_at j
  pub stamp : c.stamp ≡ since 1 j m
  pub publish : c.publish ≡ word config trace (since 2 j m)
  pub command : c.command ≡ command_word (due_command (grant config trace) (since 4 j m))
  pub kept : c.kept ≡ calm (due (grant config trace) (since 4 j m))
  pub looked : j ≡ 3 → (c.looked ≡ word config trace (suc m)) ⊎ (c.looked ≡ word config trace m)

module _ (config : Settings) (trace : List InputData) (m : ℕ) (c : Channel) where
  to_sampled : Stage config trace m c 0 → Stage config trace m (sampled c (suc m)) 1
  to_sampled s = record {
    well = s.well;
    free = s.free;
    phase = refl;
    stamp = refl;
    publish = s.publish;
    command = s.command;
    kept = s.kept;
    looked = λ e. absurd (omega arith);
  }

  to_published : Stage config trace m c 1
      → Stage config trace m (published c Published (publish_word c.stamp (grant config trace c.stamp))) 2
  to_published s = record {
    well = s.well;
    free = s.free;
    phase = refl;
    stamp = s.stamp;
    publish = ap (word config trace) s.stamp;
    command = s.command;
    kept = s.kept;
    looked = λ e. absurd (omega arith);
  }

  to_looked : (w : ℕ) → (w ≡ word config trace (suc m)) ⊎ (w ≡ word config trace m) → Stage config trace m c 2
      → Stage config trace m (looked c w) 3
  to_looked w seen s = record {
    well = s.well;
    free = s.free;
    phase = refl;
    stamp = s.stamp;
    publish = s.publish;
    command = s.command;
    kept = s.kept;
    looked = λ e. seen;
  }

  to_commanded : (t : Told) → t.stamp ≡ suc m → t.own ≡ grant config trace (suc m) → matches t.stamp t.own t.before t.seen ≡ true
      → t.closed_a ≡ not (is_off (due (grant config trace) m)) → t.closed_b ≡ not (is_off (due (grant config trace) m))
      → Stage config trace m c 3 → Stage config trace m (commanded c t) 4
  unfolding due
  to_commanded t e own agreed a b s =
      let d : decided c.kept t ≡ _ = ap (λ k. decided k t) s.kept ∙ decided-calm (due (grant config trace) m) t agreed a b in
      record {
        well = s.well;
        free = s.free;
        phase = refl;
        stamp = s.stamp;
        publish = s.publish;
        command = ap (λ d. command_word d.command) d
            ∙ (ap (λ n. command_word (command_for n (due_after (due (grant config trace) m) t.own.kind) t.own)) e
            ∙ ap (λ (v : Ruling). command_word (command_for (suc m) (due_after (due (grant config trace) m) v.kind) v)) own);
        kept = ap (λ d. d.kept) d ∙ ap (λ (v : Ruling). calm (due_after (due (grant config trace) m) v.kind)) own;
        looked = λ e. absurd (omega arith);
      }

  -- which stage a step may be made at
  at_sample : (j : ℕ) → j ≤ 4 → is_rest (phase_at j) ≡ true → since 1 j m < suc m → j ≡ 0
  at_sample zero h r l = refl
  at_sample (suc zero) h r l = absurd (true≢false (sym r))
  at_sample (suc (suc zero)) h r l = absurd (true≢false (sym r))
  at_sample (suc (suc (suc zero))) h r l = absurd (true≢false (sym r))
  at_sample (suc (suc (suc (suc j)))) h r l =
      let on : leb 1 (suc (suc (suc (suc j)))) ≡ true = le-leb 1 (suc (suc (suc (suc j)))) (omega arith) in
      let l' : suc m < suc m = rw on at l in absurd (omega arith)

  at_publish : (j : ℕ) → j ≤ 4 → is_sampled (phase_at j) ≡ true → j ≡ 1
  at_publish zero h r = absurd (true≢false (sym r))
  at_publish (suc zero) h r = refl
  at_publish (suc (suc zero)) h r = absurd (true≢false (sym r))
  at_publish (suc (suc (suc zero))) h r = absurd (true≢false (sym r))
  at_publish (suc (suc (suc (suc j)))) h r = absurd (true≢false (sym r))

  at_look : (j : ℕ) → j ≤ 4 → is_published (phase_at j) ≡ true → j ≡ 2
  at_look zero h r = absurd (true≢false (sym r))
  at_look (suc zero) h r = absurd (true≢false (sym r))
  at_look (suc (suc zero)) h r = refl
  at_look (suc (suc (suc zero))) h r = absurd (true≢false (sym r))
  at_look (suc (suc (suc (suc j)))) h r = absurd (true≢false (sym r))

  at_command : (j : ℕ) → j ≤ 4 → is_looked (phase_at j) ≡ true → j ≡ 3
  at_command zero h r = absurd (true≢false (sym r))
  at_command (suc zero) h r = absurd (true≢false (sym r))
  at_command (suc (suc zero)) h r = absurd (true≢false (sym r))
  at_command (suc (suc (suc zero))) h r = refl
  at_command (suc (suc (suc (suc j)))) h r = absurd (true≢false (sym r))

-- ---- the invariant

-- at tick m + 1: how far each side has come, and what the contactors show
pub record Calm (config : Settings) (events : List Event) (s : State) (m : ℕ) : Type 0 where
  pub side : (side : Side) → (j : ℕ) × (j ≤ 4) × (turn side events ≡ take j (four_steps side)) × Stage config s.trace m (side_of side s) j
  pub shown_a : (present s).a.kind ≡ due (grant config s.trace) m
  pub shown_b : (present s).b.kind ≡ due (grant config s.trace) m

-- the word that a side publishes in this round or has from the last
published_word : (config : Settings) (trace : List InputData) (m : ℕ) (c : Channel) (j : ℕ) → Stage config trace m c j
    → (c.publish ≡ word config trace (suc m)) ⊎ (c.publish ≡ word config trace m)
published_word config trace m c j s = elim (cases_Bool (leb 2 j)) [
  | inl e ↦ inl (s.publish ∙ ap (λ b. word config trace (cond b (suc m) m)) e)
  | inr e ↦ inr (s.publish ∙ ap (λ b. word config trace (cond b (suc m) m)) e)
]

-- a seen word of this round or the last matches
agrees : (config : Settings) (trace : List InputData) (m w : ℕ) → (w ≡ word config trace (suc m)) ⊎ (w ≡ word config trace m)
    → matches (suc m) (grant config trace (suc m)) (grant config trace (suc m - 1)) w ≡ true
agrees config trace m w (inl e) = or_left _ _ (eq-eqb w _ e)
agrees config trace m w (inr e) = let k : suc m - 1 ≡ m = omega arith in or_right _ _ (eq-eqb w _ (e ∙ ap (word config trace) (sym k)))

-- one side's step keeps the other's
module _ (config : Settings) (events : List Event) (s : State) (m : ℕ) (here : length s.trace ≡ suc m) (h : Calm config events s m) where
  moved : (side : Side) (step : SideStep) (c : Channel) (j : ℕ) → j ≤ 4 → is_of_round step ≡ true
      → turn side events ++ Step side step ∷ [] ≡ take j (four_steps side) → Stage config s.trace m c j
      → Calm config (events ++ Step side step ∷ []) (with_side side s c) m
  moved A step c j few is goes stage = record {
    side = elim [
      | A ↦ (j, few, turn-push A events (Step A step) refl ∙ (rw is goes), stage)
      | B ↦ (let o = h.side B in (o.0, o.1, turn-push B events (Step A step) refl ∙ (append-nil _ ∙ o.2), o.3))
    ];
    shown_a = h.shown_a;
    shown_b = h.shown_b;
  }
  moved B step c j few is goes stage = record {
    side = elim [
      | A ↦ (let o = h.side A in (o.0, o.1, turn-push A events (Step B step) refl ∙ (append-nil _ ∙ o.2), o.3))
      | B ↦ (j, few, turn-push B events (Step B step) refl ∙ (rw is goes), stage)
    ];
    shown_a = h.shown_a;
    shown_b = h.shown_b;
  }

  -- the words of a healthy side's Command
  told_agrees : (c : Channel) → Stage config s.trace m c 3
      → let t = told config s c in (t.stamp ≡ suc m) × (t.own ≡ grant config s.trace (suc m))
      × (matches t.stamp t.own t.before t.seen ≡ true)
  told_agrees c stage = (
    stage.stamp,
    ap (grant config s.trace) stage.stamp,
    subst (λ n. matches n (grant config s.trace n) (grant config s.trace (n - 1)) c.looked ≡ true) (sym stage.stamp)
        (agrees config s.trace m c.looked (stage.looked refl)),
  )

  came : (side : Side) (j : ℕ) → (h.side side).0 ≡ j → (turn side events ≡ take j (four_steps side)) × Stage config s.trace m
      (side_of side s) j
  came side j e = (
    subst (λ i. turn side events ≡ take i (four_steps side)) e (h.side side).2,
    subst (Stage config s.trace m (side_of side s)) e (h.side side).3,
  )

  sample_calm : (side : Side) → enabled config s (Step side Sample) ≡ true
      → Calm config (events ++ Step side Sample ∷ []) (next config s (Step side Sample)) m
  sample_calm side on =
      let o = h.side side in
      let parts = and_parts _ _ on in
      let rest : is_rest (phase_at o.0) ≡ true = ap is_rest (sym o.3.phase) ∙ (and_parts _ _ parts.0).1 in
      let below : (side_of side s).stamp < length s.trace = ltb-true _ _ parts.1 in
      let late : since 1 o.0 m < suc m = omega (arith, o.3.stamp, here) in
      let c = came side 0 (at_sample config s.trace m (side_of side s) o.0 o.1 rest late) in
      moved side Sample (sampled (side_of side s) (length s.trace)) 1 (omega arith) refl (rw c.0 refl)
      (subst (λ n. Stage config s.trace m (sampled (side_of side s) n) 1) (sym here) (to_sampled config s.trace m (side_of side s) c.1))

  publish_calm : (side : Side) → enabled config s (Step side Publish) ≡ true
      → Calm config (events ++ Step side Publish ∷ []) (next config s (Step side Publish)) m
  publish_calm side on =
      let o = h.side side in
      let at : is_sampled (phase_at o.0) ≡ true = ap is_sampled (sym o.3.phase) ∙ (and_parts _ _ on).1 in
      let c = came side 1 (at_publish config s.trace m (side_of side s) o.0 o.1 at) in
      moved side Publish (published (side_of side s) Published (publish_word (side_of side s).stamp
      (grant config s.trace (side_of side s).stamp)))
      2 (omega arith) refl (rw c.0 refl) (to_published config s.trace m (side_of side s) c.1)

  look_calm : (side : Side) → enabled config s (Step side Look) ≡ true
      → Calm config (events ++ Step side Look ∷ []) (next config s (Step side Look)) m
  look_calm side on =
      let o = h.side side in
      let peer = h.side (other side) in
      let at : is_published (phase_at o.0) ≡ true = ap is_published (sym o.3.phase) ∙ (and_parts _ _ on).1 in
      let c = came side 2 (at_look config s.trace m (side_of side s) o.0 o.1 at) in
      moved side Look (looked (side_of side s) (side_of (other side) s).publish) 3 (omega arith) refl (rw c.0 refl)
      (to_looked config s.trace m (side_of side s) (side_of (other side) s).publish
      (published_word config s.trace m (side_of (other side) s) peer.0 peer.3) c.1)

  command_calm : (side : Side) → enabled config s (Step side Command) ≡ true
      → Calm config (events ++ Step side Command ∷ []) (next config s (Step side Command)) m
  command_calm side on =
      let o = h.side side in
      let t = told config s (side_of side s) in
      let at : is_looked (phase_at o.0) ≡ true = ap is_looked (sym o.3.phase) ∙ (and_parts _ _ on).1 in
      let c = came side 3 (at_command config s.trace m (side_of side s) o.0 o.1 at) in
      let agreed = told_agrees (side_of side s) c.1 in
      moved side Command (commanded (side_of side s) t) 4 (omega arith) refl (rw c.0 refl)
      (to_commanded config s.trace m (side_of side s) t agreed.0 agreed.1 agreed.2 (ap (λ k. not (is_off k)) h.shown_a)
      (ap (λ k. not (is_off k)) h.shown_b) c.1)

  -- a side that is well makes no step of a failed one
  not_failed : (side : Side) → (side_of side s).failed ≡ true → ⊥
  not_failed side f = true≢false (sym f ∙ (h.side side).3.well)

  -- a step that a side may make, where it is not its Fail
  step_calm : (side : Side) (step : SideStep) → enabled config s (Step side step) ≡ true → is_fail step ≡ false
      → Calm config (events ++ Step side step ∷ []) (next config s (Step side step)) m
  step_calm side Fail on f = absurd (true≢false f)
  step_calm side Sample on f = sample_calm side on
  step_calm side Publish on f = publish_calm side on
  step_calm side Look on f = look_calm side on
  step_calm side Command on f = command_calm side on
  step_calm side (RoguePublish word) on f = absurd (not_failed side on)
  step_calm side (RogueCommand word) on f = absurd (not_failed side on)
  step_calm side (RogueContactor order) on f = absurd (not_failed side on)

  -- an event that may come, where it is no Tick and no Fail
  pub event_calm : (e : Event) → is_tick e ≡ false → enabled config s e ≡ true → ((side : Side) → is_fail_of side e ≡ false)
      → Calm config (events ++ e ∷ []) (next config s e) m
  event_calm (Tick input) still on f = absurd (true≢false still)
  event_calm (Step A step) still on f = step_calm A step on (f A)
  event_calm (Step B step) still on f = step_calm B step on (f B)
  event_calm (Exchange side) still on f = absurd (not_failed side on)

-- ---- over runs

pub Undisturbed-front : (events : List Event) (e : Event) (t : ℕ) → t ≤ tick_count events → IsUndisturbed (events ++ e ∷ []) t
    → IsUndisturbed events t
Undisturbed-front events e t l u = record {
  ticks = l;
  whole = λ before after input is few side. u.whole before (after ++ e ∷ []) input (ap (λ xs. xs ++ e ∷ []) is
      ∙ append_assoc before (Tick input ∷ after) (e ∷ [])) few side;
  turns = λ before after input is some few side. u.turns before (after ++ e ∷ []) input (ap (λ xs. xs ++ e ∷ []) is
      ∙ append_assoc before (Tick input ∷ after) (e ∷ [])) some few side;
}

pub due-old : (config : Settings) (trace rest : List InputData) (n : ℕ) → n ≤ length trace
    → due (grant config (trace ++ rest)) n ≡ due (grant config trace) n
unfolding due
due-old config trace rest zero h = refl
due-old config trace rest (suc n) h = rw (due-old config trace rest n (omega arith), grant-old config trace rest (suc n) h) refl

pub due_command-old : (config : Settings) (trace rest : List InputData) (n : ℕ) → n ≤ length trace
    → due_command (grant config (trace ++ rest)) n ≡ due_command (grant config trace) n
due_command-old config trace rest zero h = refl
due_command-old config trace rest (suc n) h = rw (due-old config trace rest (suc n) h, grant-old config trace rest (suc n) h) refl

due_command-kind : (config : Settings) (trace : List InputData) (n : ℕ)
    → (due_command (grant config trace) n).kind ≡ due (grant config trace) n
unfolding due
due_command-kind config trace zero = refl
due_command-kind config trace (suc n) = refl

due_command-stamp : (config : Settings) (trace : List InputData) (n : ℕ) → (due_command (grant config trace) n).stamp ≡ n
due_command-stamp config trace zero = refl
due_command-stamp config trace (suc n) = refl

-- what a contactor that follows the due word gives at the next tick
pub shows : (config : Settings) (trace : List InputData) (n : ℕ) → n < 2 ^ 24
    → effective (command_word (due_command (grant config trace) n)) (n + 1) ≡ due (grant config trace) n
shows config trace n small =
    let c = due_command (grant config trace) n in
    let few : c.stamp < 2 ^ 24 = omega (arith, due_command-stamp config trace n) in
    let stamped : stamp_of (command_word c) ≡ n = stamp_of-command c few ∙ due_command-stamp config trace n in
    let on : leb (stamp_of (command_word c)) (n + 1) ≡ true = le-leb _ _ (omega (arith, stamped)) in
    let young : leb (n + 1) (stamp_of (command_word c) + 2) ≡ true = le-leb _ _ (omega (arith, stamped)) in
    rw (on, young) (kind_of-command c few ∙ due_command-kind config trace n)
