-- What holds of each tick of a run, where it holds of a tick behind any run.
use Rattle.std.proofs.Common.{◌≡◌, ℕ, suc, ◌+◌, ◌-◌, ◌^◌, ◌<◌, ◌≤◌, List, [], ◌∷◌, ◌++◌, length, get_or, refl, sym, ap, ◌∙◌, subst, arith, inl, inr}
use Rattle.std.proofs.lemmas.Bool.{cases_lt}
use Rattle.std.proofs.lemmas.List.{append-nil, length_push, get_or_append_left, get_or_push}
use Rattle.lift_base.specs.declared.Side.TheVariants.{A, B}
use Rattle.lift_model.specs.Records.{Settings}
use Rattle.core_model.proofs.EventLemmas.{before-old, before-new}
use Rattle.core_model.proofs.RunLemmas.{run_holds}
use Rattle.core_model.specs.Machine.{State, Event, Tick, Step, Exchange, next, settled_by}
use Rattle.core_model.specs.Runs.{CoreRun, no_events, then_event, tick_count, before_tick}
use Rattle.core_model.specs.Settling.{Settled, no_settled}

-- an event leaves the path, or a Tick adds to it
pub path_grows_by : (config : Settings) (s : State) (e : Event) → (later : List Settled) × ((next config s e).path ≡ s.path ++ later)
path_grows_by config s (Tick input) = (settled_by s.a s.b (length s.trace + 1) ∷ [], refl)
path_grows_by config s (Step A step) = ([], sym (append-nil s.path))
path_grows_by config s (Step B step) = ([], sym (append-nil s.path))
path_grows_by config s (Exchange A) = ([], sym (append-nil s.path))
path_grows_by config s (Exchange B) = ([], sym (append-nil s.path))

module _ (config : Settings) (small : config.ticks < 2 ^ 24) (P : List Event → Settled → Type 0)
    (holds : (events : List Event) (s : State) → CoreRun config events s → P events (settled_by s.a s.b (length s.trace + 1))) where
  -- the last tick of these events
  newest : (events : List Event) (s : State) → CoreRun config events s → (e : Event) (t : ℕ) → length s.path < t
      → t ≤ length (next config s e).path → P (before_tick t (events ++ e ∷ [])) (get_or (next config s e).path (t - 1) no_settled)
  newest events s run (Tick input) t new b =
      let h = run_holds config events s small run in
      let now : Settled = settled_by s.a s.b (length s.trace + 1) in
      let last : t ≡ length s.path + 1 = omega (arith, b, length_push s.path now) in
      let here : t ≡ suc (tick_count events) = omega (arith, last, h.ticks, h.settled) in
      let place : length s.path ≡ t - 1 = omega (arith, last) in
      subst (λ es. P es (get_or (s.path ++ now ∷ []) (t - 1) no_settled))
      (sym (ap (λ n. before_tick n (events ++ Tick input ∷ [])) here ∙ before-new events (Tick input) [] refl))
      (subst (P events) (sym (get_or_push s.path now no_settled (t - 1) place)) (holds events s run))
  newest events s run (Step A step) t new b = absurd (omega arith)
  newest events s run (Step B step) t new b = absurd (omega arith)
  newest events s run (Exchange A) t new b = absurd (omega arith)
  newest events s run (Exchange B) t new b = absurd (omega arith)

  pub at_each_tick : (events : List Event) (s : State) → CoreRun config events s → (t : ℕ) → 0 < t → t ≤ length s.path
      → P (before_tick t events) (get_or s.path (t - 1) no_settled)
  at_each_tick _ _ no_events t a b = absurd (omega arith)
  at_each_tick _ _ (then_event {events} {s} run e on) t a b = elim (cases_lt (length s.path) t) [
    | inl new ↦ newest events s run e t new b
    | inr old ↦
        (let h = run_holds config events s small run in
        let g = path_grows_by config s e in
        let same : get_or (next config s e).path (t - 1) no_settled ≡ get_or s.path (t - 1) no_settled =
        ap (λ ps. get_or ps (t - 1) no_settled) g.1 ∙ get_or_append_left s.path g.0 no_settled (t - 1) (omega arith) in
        subst (λ es. P es (get_or (next config s e).path (t - 1) no_settled))
        (sym (before-old events e t a (omega (arith, h.ticks, h.settled))))
        (subst (P (before_tick t events)) (sym same) (at_each_tick events s run t a old)))
  ]
