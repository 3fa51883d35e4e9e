-- Runs of the machine, and at which ticks a side is healthy in one. All own.
use Rattle.std.specs.Prelude.{◌≡◌, ℕ, suc, ◌-◌, Bool, true, false, not, ◌&&◌, ◌||◌, ◌==◌, if◌then◌else◌, List, [], ◌∷◌, ◌++◌}
use Rattle.lift_model.specs.Enums.{Side, A, B}
use Rattle.lift_model.specs.Records.{Settings}
use Rattle.core_model.specs.Machine.{State, Event, enabled, next, start, Tick, Step, Exchange}
use Rattle.core_model.specs.declared.SideStep.{SideStep}
use Rattle.core_model.specs.declared.SideStep.TheVariants.{Fail}

-- a core run: the events, one after another, each of them enabled, lead from the start to this state
pub data CoreRun (config : Settings) : List Event → State → Type 0 where
  no_events : CoreRun config [] start
  then_event : {events : List Event} {s : State} → CoreRun config events s → (event : Event) → enabled config s event ≡ true
      → CoreRun config (events ++ event ∷ []) (next config s event)

-- the state that these events leave of this one
abbrev pub after_all : Settings → State → List Event → State
after_all config s [] = s
after_all config s (event ∷ events) = after_all config (next config s event) events

-- the step is Fail
abbrev pub is_fail : SideStep → Bool
is_fail Fail = true
is_fail step = false

-- the event is a Fail of this side
abbrev pub is_fail_of : Side → Event → Bool
is_fail_of A (Step A step) = is_fail step
is_fail_of B (Step B step) = is_fail step
is_fail_of side event = false

-- the event is an Exchange of this side
abbrev pub is_exchange_of : Side → Event → Bool
is_exchange_of A (Exchange A) = true
is_exchange_of B (Exchange B) = true
is_exchange_of side event = false

-- the event is a Tick
abbrev pub is_tick : Event → Bool
is_tick (Tick input) = true
is_tick event = false

-- how many Ticks there are
abbrev pub tick_count : List Event → ℕ
tick_count [] = 0
tick_count (event ∷ events) = if is_tick event then suc (tick_count events) else tick_count events

-- some Fail of this side stands there
abbrev pub ever_failed : Side → List Event → Bool
ever_failed side [] = false
ever_failed side (event ∷ events) = is_fail_of side event || ever_failed side events

-- whether the side is failed after this event, where it was before
abbrev pub failed_after : Side → Bool → Event → Bool
failed_after side was event = not (is_exchange_of side event) && (was || is_fail_of side event)

-- whether it is failed after these, where it was before
abbrev pub failed_over : Side → Bool → List Event → Bool
failed_over side was [] = was
failed_over side was (event ∷ events) = failed_over side (failed_after side was event) events

-- the events before the t-th Tick, or all of them where there are fewer
abbrev pub before_tick : ℕ → List Event → List Event
before_tick t [] = []
before_tick t (event ∷ events) =
    if is_tick event then (if t == 1 then [] else event ∷ before_tick (t - 1) events) else event ∷ before_tick t events

-- no Fail of the side stands before the t-th Tick, or an Exchange of it stands between its last one and that Tick
abbrev pub is_healthy_at : Side → List Event → ℕ → Bool
is_healthy_at side events t = not (failed_over side false (before_tick t events))
