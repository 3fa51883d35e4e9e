-- How a side locks out, and how it starts. All own.
use Rattle.std.specs.Prelude.{length, get_or, ◌≡◌, ◌≢◌, ℕ, ◌+◌, ◌-◌, ◌<◌, ◌≤◌, Bool, true, false, not, ◌||◌, ◌==◌, if◌then◌else◌, List, [], ◌∷◌, ◌++◌}
use Rattle.lift_base.specs.declared.wires.TheConstants.{RESET}
use Rattle.lift_model.specs.Enums.{Off, Side, A, B}
use Rattle.lift_model.specs.Records.{Settings}
use Rattle.lift_model.specs.Trace.{words_of}
use Rattle.lift_model.specs.Wires.{rises}
use Rattle.core_model.specs.Decision.{Kept, Told, is_unlocking}
use Rattle.core_model.specs.Machine.{State, Event, Step, side_of, next, told, present, start}
use Rattle.core_model.specs.Runs.{after_all, before_tick, is_fail_of, is_exchange_of}
use Rattle.core_model.specs.Settling.{Settled, no_settled}
use Rattle.core_model.specs.Words.{bit_of, matches, kind_of}
use Rattle.core_model.specs.declared.SideStep.{SideStep}
use Rattle.core_model.specs.declared.SideStep.TheVariants.{Command}

-- the step is Command
abbrev pub is_command : SideStep → Bool
is_command Command = true
is_command step = false

-- the event is a Command of this side
abbrev pub is_command_of : Side → Event → Bool
is_command_of A (Step A step) = is_command step
is_command_of B (Step B step) = is_command step
is_command_of side event = false

-- the seen word did not match
abbrev pub missed : Told → Bool
missed t = not (matches t.stamp t.own t.before t.seen)

-- of a side: how many of its Commands in a row missed, and how many before its last Command; 3 where it is locked out
pub record Misses : Type 0 where
  pub now : ℕ
  pub before : ℕ

-- at the start
abbrev pub no_misses : Misses
no_misses = record { now = 0; before = 0 }

-- so many after one Command more: by the first row it counts alone; else 3 stay
abbrev pub misses_by : Kept → Told → ℕ → ℕ
misses_by k t count =
    if is_unlocking k t then bit_of (missed t) else if count == 3 then 3 else if missed t then count + 1 else 0

-- the same after an event: an exchange locks the side out, and of a failed one nothing is counted
abbrev pub misses_after : Settings → Side → State → Misses → Event → Misses
misses_after config side s m event =
    if is_exchange_of side event then record { now = 3; before = 3 }
    else if is_fail_of side event then no_misses
    else if is_command_of side event then record {
      now = misses_by (side_of side s).kept (told config s (side_of side s)) m.now;
      before = m.now;
    }
    else m

-- after these, which begin in this state
abbrev pub misses_over : Settings → Side → State → Misses → List Event → Misses
misses_over config side s m [] = m
misses_over config side s m (event ∷ events) =
    misses_over config side (next config s event) (misses_after config side s m event) events

-- after these events of a run the side is locked out, or its last Command is the one that freed it
abbrev pub is_locked_out : Settings → Side → List Event → Bool
is_locked_out config side events =
    let m = misses_over config side start no_misses events in m.now == 3 || m.before == 3

-- In a run of these events, with this path, each tick at which a side is locked out settles Off.
abbrev pub IsLockedOut : Settings → List Event → List Settled → Type 0
IsLockedOut config events path = (t : ℕ) → 0 < t → t ≤ length path → (side : Side)
    → is_locked_out config side (before_tick t events) ≡ true → (get_or path (t - 1) no_settled).power ≡ Off

-- a Command by the first row has a stamp at which the reset rises, and it saw both contactors open
pub record Unlocks (config : Settings) (s : State) (side : Side) : Type 0 where
  pub reset : rises (words_of s.trace) RESET (side_of side s).stamp ≡ true
  pub open_a : (present s).a.kind ≡ Off
  pub open_b : (present s).b.kind ≡ Off

-- each Command by the first row unlocks so
abbrev pub UnlocksOpen : Type 0
UnlocksOpen = (config : Settings) (s : State) (side : Side) → is_unlocking (side_of side s).kept (told config s (side_of side s)) ≡ true
    → Unlocks config s side

-- both outputs are Off at the present tick
abbrev pub AreOpen : State → Type 0
AreOpen s = ((present s).a.kind ≡ Off) × ((present s).b.kind ≡ Off)

-- In a run of these events a Command of a side that goes from Off to a kind finds both outputs Off at its present tick. Before the first
-- Command, at all or since an exchange, the word is 0, which is Off.
abbrev pub StartsAreOpen : Settings → List Event → Type 0
StartsAreOpen config events = (before rest : List Event) (side : Side) → events ≡ before ++ Step side Command ∷ rest
    → let s = after_all config start before in kind_of (side_of side s).command ≡ Off
    → kind_of (side_of side (next config s (Step side Command))).command ≢ Off → AreOpen s
