-- Lists of events: their Ticks, the failures among them, and the events before a Tick.
use Rattle.std.proofs.Common.{◌≡◌, ℕ, suc, ◌+◌, ◌-◌, ◌<◌, ◌≤◌, List, [], ◌∷◌, ◌++◌, Bool, true, false, refl, ap, ◌∙◌, arith, inl, inr, cond, eqb}
use Rattle.std.specs.Prelude.{◌||◌, not}
use Rattle.std.proofs.lemmas.Bool.{cases_Bool, cases_lt, eq-eqb, ne_eqb}
use Rattle.lift_base.specs.declared.Side.{Side}
use Rattle.core_model.specs.Machine.{Event}
use Rattle.core_model.specs.Runs.{is_fail_of, is_tick, tick_count, ever_failed, failed_after, failed_over, before_tick, is_healthy_at}

pub or_false : (b : Bool) → (b || false) ≡ b
or_false true = refl
or_false false = refl

pub or_assoc : (a b c : Bool) → (a || (b || c)) ≡ ((a || b) || c)
or_assoc true b c = refl
or_assoc false b c = refl

pub ticks-push : (events : List Event) (e : Event)
    → tick_count (events ++ e ∷ []) ≡ cond (is_tick e) (suc (tick_count events)) (tick_count events)
ticks-push [] e = refl
ticks-push (x ∷ events) e = elim (cases_Bool (is_tick x)) [
  | inl h ↦ rw (h, ticks-push events e) (both (is_tick e))
  | inr h ↦ rw (h, ticks-push events e) refl
]
  where
    both : (b : Bool) → suc (cond b (suc (tick_count events)) (tick_count events)) ≡ cond b (suc (suc (tick_count events)))
        (suc (tick_count events))
    both true = refl
    both false = refl

pub ticks-append : (xs ys : List Event) → tick_count (xs ++ ys) ≡ tick_count xs + tick_count ys
ticks-append [] ys = omega arith
ticks-append (x ∷ xs) ys = elim (cases_Bool (is_tick x)) [
  | inl h ↦ rw (h, ticks-append xs ys) (omega arith)
  | inr h ↦ rw (h, ticks-append xs ys) refl
]

pub ticks-more : (events : List Event) (e : Event) → tick_count events ≤ tick_count (events ++ e ∷ [])
ticks-more events e = elim (cases_Bool (is_tick e)) [
  | inl h ↦ (let k : tick_count (events ++ e ∷ []) ≡ suc (tick_count events) = ticks-push events e ∙ (rw h refl) in omega arith)
  | inr h ↦ (let k : tick_count (events ++ e ∷ []) ≡ tick_count events = ticks-push events e ∙ (rw h refl) in omega arith)
]

pub failed-append : (side : Side) (xs ys : List Event) → ever_failed side (xs ++ ys) ≡ (ever_failed side xs || ever_failed side ys)
failed-append side [] ys = refl
failed-append side (x ∷ xs) ys = ap (λ b. is_fail_of side x || b) (failed-append side xs ys)
    ∙ or_assoc (is_fail_of side x) (ever_failed side xs) (ever_failed side ys)

pub failed-push : (side : Side) (events : List Event) (e : Event)
    → ever_failed side (events ++ e ∷ []) ≡ (ever_failed side events || is_fail_of side e)
failed-push side events e = failed-append side events (e ∷ []) ∙ ap (λ b. ever_failed side events || b) (or_false (is_fail_of side e))

-- whether a side is failed after one event more
pub failed_over-push : (side : Side) (was : Bool) (events : List Event) (e : Event)
    → failed_over side was (events ++ e ∷ []) ≡ failed_after side (failed_over side was events) e
failed_over-push side was [] e = refl
failed_over-push side was (x ∷ events) e = failed_over-push side (failed_after side was x) events e

-- what stands before a Tick that came does not change
pub before-old : (events : List Event) (e : Event) (t : ℕ) → 0 < t → t ≤ tick_count events
    → before_tick t (events ++ e ∷ []) ≡ before_tick t events
before-old [] e t some few = absurd (omega arith)
before-old (x ∷ events) e t some few = elim (cases_Bool (is_tick x)) [
  | inl h ↦
      (let few' : t ≤ suc (tick_count events) = rw h at few in
      elim (cases_lt 1 t) [
        | inl later ↦ rw (h, before-old events e (t - 1) (omega arith) (omega arith)) refl
        | inr now ↦ (let one : eqb t 1 ≡ true = eq-eqb t 1 (omega arith) in rw (h, one) refl)
      ])
  | inr h ↦ (let few' : t ≤ tick_count events = rw h at few in rw (h, before-old events e t some few') refl)
]

-- before a Tick stand all events that came before it
pub before-new : (events : List Event) (e : Event) (more : List Event) → is_tick e ≡ true
    → before_tick (suc (tick_count events)) (events ++ e ∷ more) ≡ events
before-new [] e more h = rw h refl
before-new (x ∷ events) e more h = elim (cases_Bool (is_tick x)) [
  | inl k ↦
      (let far : eqb (suc (suc (tick_count events))) 1 ≡ false = ne_eqb _ _ (λ e. omega arith) in
      let back : suc (suc (tick_count events)) - 1 ≡ suc (tick_count events) = omega arith in
      rw (k, far, back, before-new events e more h) refl)
  | inr k ↦ rw (k, before-new events e more h) refl
]

pub healthy-old : (side : Side) (events : List Event) (e : Event) (t : ℕ) → 0 < t → t ≤ tick_count events
    → is_healthy_at side (events ++ e ∷ []) t ≡ is_healthy_at side events t
healthy-old side events e t some few = ap (λ xs. not (failed_over side false xs)) (before-old events e t some few)

pub healthy-new : (side : Side) (events : List Event) (e : Event) → is_tick e ≡ true
    → is_healthy_at side (events ++ e ∷ []) (suc (tick_count events)) ≡ not (failed_over side false events)
healthy-new side events e h = ap (λ xs. not (failed_over side false xs)) (before-new events e [] h)
