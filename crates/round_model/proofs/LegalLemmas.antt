-- The events of a legal round extend a core run, and leave what the turns tell.
use Rattle.std.proofs.Common.{◌≡◌, ◌<◌, ◌≤◌, Bool, true, false, refl, sym, ap, ◌∙◌, arith, inl, inr, cond, List, [], ◌∷◌, ◌++◌, length, Option, Some, None}
use Rattle.std.specs.Prelude.{◌||◌, ◌&&◌, not}
use Rattle.std.proofs.lemmas.Bool.{cases_Bool, lt-ltb, true≢false}
use Rattle.std.proofs.lemmas.List.{length_push}
use Rattle.lift_base.specs.declared.Phase.TheVariants.{Rest}
use Rattle.lift_base.specs.declared.Side.{Side}
use Rattle.lift_base.specs.declared.Side.TheVariants.{A, B}
use Rattle.lift_model.specs.Plans.{Plan}
use Rattle.lift_model.specs.Records.{Settings, InputData}
use Rattle.core_model.specs.Decision.{decided}
use Rattle.core_model.specs.Machine.{Channel, State, Tick, Step, exchanged, side_of, next, start}
use Rattle.core_model.specs.declared.SideStep.TheVariants.{Fail}
use Rattle.core_model.specs.Settling.{ordered}
use Rattle.round_model.proofs.RoundLemmas.{Steps, done, step, steps_join, own_word, acted, turned, both, Fit, is_acting, row}
use Rattle.round_model.specs.Events.{events_of}
use Rattle.round_model.specs.Parts.{Part, Acting, Held, Failed, Exchanged, faults_of, failed_by, failed_from, has_failed, part_by, part_of, FailsOnce}
use Rattle.round_model.specs.Records.{TurnData, RoundData}
use Rattle.round_model.specs.Turns.{after, turn_of, told_now, acting_turn, held_turn, exchanged_turn, IsLegalRound, has_looked}

-- ---- the state behind a round

abbrev pub failed_if : Bool → Channel → Channel
failed_if b c = record {
  failed = cond b true c.failed;
  phase = c.phase;
  stamp = c.stamp;
  kept = c.kept;
  forced = c.forced;
  publish =
      c.publish;
  command = c.command;
  looked = c.looked;
  seen = c.seen;
}

-- a side behind the round
abbrev pub side_after : Settings → State → InputData → Side → TurnData → Channel
side_after config s input side u = turned config (next config s (Tick input)) (part_of side s.trace input)
    (failed_if (faults_of side input).fail (side_of side s)) u

abbrev pub after_round : Settings → State → InputData → RoundData → State
after_round config s input r = both (next config s (Tick input)) (side_after config s input A r.a) (side_after config s input B r.b)

-- between two rounds
pub record Between (s : State) : Type 0 where
  pub rest : (side : Side) → (side_of side s).phase ≡ Rest
  pub stamp : (side : Side) → (side_of side s).stamp ≤ length s.trace
  pub failed : (side : Side) → (side_of side s).failed ≡ has_failed side s.trace

-- ---- the parts

fit_of : (config : Settings) (t : State) (c : Channel) (u : TurnData) (anew fail was held : Bool) → c.failed ≡ was → c.phase ≡ Rest
    → c.stamp < length t.trace → (anew ≡ true → was ≡ true) → (anew ≡ true → fail ≡ false)
    → (part_by anew (not anew && (was || fail)) held ≡ Acting → u.publish ≡ Some (own_word config t.trace))
    → (part_by anew (not anew && (was || fail)) held ≡ Held → u.publish ≡ None)
    → (part_by anew (not anew && (was || fail)) held ≡ Exchanged → u.publish ≡ Some 0)
    → Fit config t (part_by anew (not anew && (was || fail)) held) (failed_if fail c) u
fit_of config t c u true true was held w r l o n a h x = absurd (true≢false (n refl))
fit_of config t c u true false was held w r l o n a h x = (w ∙ o refl, x refl)
fit_of config t c u false true true held w r l o n a h x = refl
fit_of config t c u false true false held w r l o n a h x = refl
fit_of config t c u false false true held w r l o n a h x = w
fit_of config t c u false false false true w r l o n a h x = h refl
fit_of config t c u false false false false w r l o n a h x = (record { well = w; rest = r; late = l }, a refl)

pub is-acting : (p : Part) → is_acting p ≡ true → p ≡ Acting
is-acting Acting e = refl
is-acting Held e = absurd (true≢false (sym e))
is-acting Failed e = absurd (true≢false (sym e))
is-acting Exchanged e = absurd (true≢false (sym e))

looks : (p : Part) → is_acting p ≡ true → has_looked p ≡ true
looks Acting e = refl
looks Held e = absurd (true≢false (sym e))
looks Failed e = refl
looks Exchanged e = absurd (true≢false (sym e))

fail_a : (config : Settings) (t : State) (b : Bool) → (b ≡ true → t.a.failed ≡ false)
    → Steps config t (cond b (Step A Fail ∷ []) []) (both t (failed_if b t.a) t.b)
fail_a config t true h = step (Step A Fail) (let w = h refl in rw w refl) done
fail_a config t false h = done

fail_b : (config : Settings) (t : State) (b : Bool) → (b ≡ true → t.b.failed ≡ false)
    → Steps config t (cond b (Step B Fail ∷ []) []) (both t t.a (failed_if b t.b))
fail_b config t true h = step (Step B Fail) (let w = h refl in rw w refl) done
fail_b config t false h = done

-- ---- the round

module _ (config : Settings) (crew : List (Option Plan)) (s : State) (input : InputData) (r : RoundData)
    (b : Between s) (once : FailsOnce s.trace input) (room : length s.trace < config.ticks) (l : IsLegalRound config crew s input r) where
  t : State
  t = next config s (Tick input)

  published : (side : Side) → part_of side s.trace input ≡ Acting
      → (turn_of side r).publish ≡ Some (own_word config (s.trace ++ input ∷ []))
  unfolding own_word
  published side p = ap (λ (u : TurnData). u.publish) (l.acting side p)

  fit : (side : Side) → Fit config (next config s (Tick input)) (part_of side s.trace input)
      (failed_if (faults_of side input).fail (side_of side s)) (turn_of side r)
  fit side =
      let f = faults_of side input in
      fit_of config (next config s (Tick input)) (side_of side s) (turn_of side r) f.exchange f.fail
      (has_failed side s.trace) f.hold (b.failed side) (b.rest side)
      (omega (arith, b.stamp side, length_push s.trace input)) (once side).exchanged (once side).alone (published side)
      (λ p. ap (λ (u : TurnData). u.publish) (l.held side p)) (λ p. ap (λ (u : TurnData). u.publish) (l.exchanged side p))

  pub round_runs : Steps config s (events_of s input r) (after_round config s input r)
  round_runs =
      step (Tick input) (lt-ltb _ _ room)
      (steps_join (fail_a config (next config s (Tick input)) input.faults.a.fail (λ e. b.failed A ∙ (once A).fails e))
      (steps_join (fail_b config (both (next config s (Tick input)) (failed_if input.faults.a.fail s.a) s.b) input.faults.b.fail
      (λ e. b.failed B ∙ (once B).fails e))
      (row config (both (next config s (Tick input)) (failed_if input.faults.a.fail s.a) (failed_if input.faults.b.fail s.b)) r
      (part_of A s.trace input) (part_of B s.trace input)
      (fit A) (fit B) (λ p. l.saw A (looks _ p)) (λ p. l.saw B (looks _ p)) (λ p q. l.crossed (is-acting _ p) (is-acting _ q))
      _ _ refl refl)))

-- ---- what a side has behind the round

pub has_failed-push : (side : Side) (was : Bool) (past : List InputData) (input : InputData)
    → failed_from side was (past ++ input ∷ []) ≡ failed_by (failed_from side was past) (faults_of side input)
has_failed-push side was [] input = refl
has_failed-push side was (x ∷ past) input = has_failed-push side (failed_by was (faults_of side x)) past input

abbrev pub is_exchanged : Part → Bool
is_exchanged Acting = false
is_exchanged Held = false
is_exchanged Failed = false
is_exchanged Exchanged = true

pub exchanged-by : (x f h : Bool) → is_exchanged (part_by x f h) ≡ x
exchanged-by true f h = refl
exchanged-by false true h = refl
exchanged-by false false true = refl
exchanged-by false false false = refl

-- d is the side behind the round, c before it
pub record Tells (config : Settings) (t : State) (p : Part) (fail : Bool) (c : Channel) (u : TurnData) (d : Channel) : Type 0 where
  pub failed : is_exchanged p ≡ false → d.failed ≡ cond fail true c.failed
  pub anew : is_exchanged p ≡ true → d ≡ exchanged
  pub rest : d.phase ≡ c.phase
  pub publish : d.publish ≡ after c.publish u.publish
  pub command : d.command ≡ after c.command u.command
  pub forced : d.forced ≡ ordered c.forced u.contactor
  pub acting : p ≡ Acting → (d.stamp ≡ length t.trace) × (d.seen ≡ u.seen) × (d.kept ≡ (decided c.kept (told_now config t u.seen)).kept)
  pub passive : is_acting p ≡ false → is_exchanged p ≡ false → (d.stamp ≡ c.stamp) × (d.seen ≡ c.seen) × (d.kept ≡ c.kept)

tells : (config : Settings) (t : State) (p : Part) (fail : Bool) (c : Channel) (u : TurnData) → c.phase ≡ Rest
    → (p ≡ Held → u ≡ held_turn) → (p ≡ Acting → u ≡ acting_turn config t c.kept u.seen) → (p ≡ Exchanged → u ≡ exchanged_turn)
    → Tells config t p fail c u (turned config t p (failed_if fail c) u)
unfolding acted
tells config t Acting fail c u r h a x =
    let e = a refl in record {
      failed = λ _. refl;
      anew = λ k. absurd (true≢false (sym k));
      rest = sym r;
      publish = ap (λ (v : TurnData). after c.publish v.publish) (sym e);
      command = ap (λ (v : TurnData). after c.command v.command) (sym e);
      forced = ap (λ (v : TurnData). ordered c.forced v.contactor) (sym e);
      acting = λ _. (refl, refl, refl);
      passive = λ k _. absurd (true≢false k);
    }
tells config t Held fail c u r h a x =
    let e = h refl in record {
      failed = λ _. refl;
      anew = λ k. absurd (true≢false (sym k));
      rest = refl;
      publish = ap (λ (v : TurnData). after c.publish v.publish) (sym e);
      command = ap (λ (v : TurnData). after c.command v.command) (sym e);
      forced = ap (λ (v : TurnData). ordered c.forced v.contactor) (sym e);
      acting = λ k. absurd (true≢false (ap is_acting (sym k)));
      passive = λ _ _. (refl, refl, refl);
    }
tells config t Failed fail c u r h a x = record {
  failed = λ _. refl;
  anew = λ k. absurd (true≢false (sym k));
  rest = refl;
  publish = refl;
  command = refl;
  forced = refl;
  acting = λ k. absurd (true≢false (ap is_acting (sym k)));
  passive = λ _ _. (refl, refl, refl);
}
tells config t Exchanged fail c u r h a x =
    let e = x refl in record {
      failed = λ k. absurd (true≢false k);
      anew = λ _. refl;
      rest = sym r;
      publish = ap (λ (v : TurnData). after c.publish v.publish) (sym e);
      command = ap (λ (v : TurnData). after c.command v.command) (sym e);
      forced = ap (λ (v : TurnData). ordered c.forced v.contactor) (sym e);
      acting = λ k. absurd (true≢false (ap is_acting (sym k)));
      passive = λ _ k. absurd (true≢false k);
    }

module _ (config : Settings) (crew : List (Option Plan)) (s : State) (input : InputData) (r : RoundData) (b : Between s)
    (l : IsLegalRound config crew s input r) where
  pub side_tells : (side : Side) → Tells config (next config s (Tick input)) (part_of side s.trace input) (faults_of side input).fail
      (side_of side s) (turn_of side r) (side_of side (after_round config s input r))
  side_tells A = tells config (next config s (Tick input)) (part_of A s.trace input) input.faults.a.fail s.a r.a (b.rest A) (l.held A)
      (l.acting A) (l.exchanged A)
  side_tells B = tells config (next config s (Tick input)) (part_of B s.trace input) input.faults.b.fail s.b r.b (b.rest B) (l.held B)
      (l.acting B) (l.exchanged B)

  -- a side is exchanged exactly where the script exchanges it
  by_script : (side : Side) → is_exchanged (part_of side s.trace input) ≡ (faults_of side input).exchange
  by_script side = exchanged-by (faults_of side input).exchange _ (faults_of side input).hold

  later : (side : Side) → (side_of side (after_round config s input r)).stamp ≤ length (s.trace ++ input ∷ [])
  later side =
      let k = side_tells side in
      elim (cases_Bool (is_acting (part_of side s.trace input))) [
        | inl e ↦ (let same = (k.acting (is-acting _ e)).0 in omega (arith, same))
        | inr e ↦ elim (cases_Bool (is_exchanged (part_of side s.trace input))) [
          | inl x ↦ (let same : (side_of side (after_round config s input r)).stamp ≡ 0 = ap (λ (d : Channel). d.stamp) (k.anew x) in
              omega (arith, same))
          | inr x ↦ (let same = (k.passive e x).0 in omega (arith, same, b.stamp side, length_push s.trace input))
        ]
      ]

  -- whether a side has failed behind the round
  pub failed_told : (side : Side) → (side_of side (after_round config s input r)).failed
      ≡ failed_by (side_of side s).failed (faults_of side input)
  failed_told side =
      let k = side_tells side in
      let f = faults_of side input in
      let was = (side_of side s).failed in
      elim (cases_Bool f.exchange) [
        | inl x ↦ ap (λ (d : Channel). d.failed) (k.anew (by_script side ∙ x)) ∙ ap (λ b. not b && (was || f.fail)) (sym x)
        | inr x ↦ k.failed (by_script side ∙ x) ∙ (flip f.fail was ∙ ap (λ b. not b && (was || f.fail)) (sym x))
      ] where
        flip : (x y : Bool) → cond x true y ≡ (y || x)
        flip true true = refl
        flip true false = refl
        flip false true = refl
        flip false false = refl

  failed_now : (side : Side) → (side_of side (after_round config s input r)).failed ≡ has_failed side (s.trace ++ input ∷ [])
  failed_now side = failed_told side ∙ (ap (λ b. failed_by b (faults_of side input)) (b.failed side)
      ∙ sym (has_failed-push side false s.trace input))

  pub between_rounds : Between (after_round config s input r)
  between_rounds = record { rest = λ side. (side_tells side).rest ∙ b.rest side; stamp = later; failed = failed_now }

pub start_between : Between start
start_between = record {
  rest = elim [ A ↦ refl | B ↦ refl ];
  stamp = elim [ A ↦ omega arith | B ↦ omega arith ];
  failed =
      elim [ A ↦ refl | B ↦ refl ];
}
