-- What the state behind a round has of the turns, and what the events say of health, calm and the lock-out.
use Rattle.std.specs.Prelude.{◌≡◌, ℕ, ◌^◌, ◌<◌, ◌≤◌, List, [], ◌∷◌, ◌++◌, length, Option}
use Rattle.lift_base.specs.declared.Side.{Side}
use Rattle.lift_model.specs.Plans.{Plan}
use Rattle.lift_model.specs.Records.{Settings, InputData, SideFaultData}
use Rattle.core_model.specs.Decision.{decided}
use Rattle.core_model.specs.Due.{IsUndisturbed}
use Rattle.core_model.specs.History.{IsLockedOut, StartsAreOpen}
use Rattle.core_model.specs.Machine.{Channel, State, Event, Tick, exchanged, side_of, next}
use Rattle.core_model.specs.Runs.{is_healthy_at, after_all}
use Rattle.core_model.specs.Settling.{Settled, ordered}
use Rattle.round_model.specs.Events.{events_of}
use Rattle.round_model.specs.Lawful.{Legal, IsLawful, IsScript}
use Rattle.round_model.specs.Parts.{Part, Acting, Exchanged, faults_of, failed_by, part_of, CalmScript, is_healthy_by_script}
use Rattle.round_model.specs.Records.{TurnData, RoundData}
use Rattle.round_model.specs.Turns.{after, turn_of, told_now, IsLegalRound}

-- d is a side behind a round and c the side before it, u its turn; t is the state behind the tick
pub record SideIsTold (config : Settings) (t : State) (p : Part) (f : SideFaultData) (c : Channel) (u : TurnData)
    (d : Channel) : Type 0 where
  pub failed : d.failed ≡ failed_by c.failed f
  pub rest : d.phase ≡ c.phase
  pub publish : d.publish ≡ after c.publish u.publish
  pub command : d.command ≡ after c.command u.command
  pub contactor : d.forced ≡ ordered c.forced u.contactor
  pub acting : p ≡ Acting → (d.stamp ≡ length t.trace) × (d.seen ≡ u.seen) × (d.kept ≡ (decided c.kept (told_now config t u.seen)).kept)
  pub anew : p ≡ Exchanged → d ≡ exchanged
  pub others : (p ≡ Acting → ⊥) → (p ≡ Exchanged → ⊥) → (d.stamp ≡ c.stamp) × (d.seen ≡ c.seen) × (d.kept ≡ c.kept)

-- behind a legal round each side has what its turn tells
abbrev pub RoundIsTold : Type 0
RoundIsTold = (config : Settings) (crew : List (Option Plan)) (inputs : List InputData) (rounds : List RoundData) (events : List Event)
    (s : State)
    (input : InputData) (round : RoundData) → IsScript config (inputs ++ input ∷ []) → Legal config crew inputs rounds events s
    → IsLegalRound config crew s input round → (side : Side)
    → SideIsTold config (next config s (Tick input)) (part_of side s.trace input) (faults_of side input) (side_of side s)
    (turn_of side round)
    (side_of side (after_all config s (events_of s input round)))

-- a side is healthy at a tick by the events exactly where it is by the script
abbrev pub HealthIsTold : Type 0
HealthIsTold = (config : Settings) (crew : List (Option Plan)) (inputs : List InputData) (rounds : List RoundData) (events : List Event)
    (s : State)
    → IsScript config inputs → Legal config crew inputs rounds events s
    → (side : Side) (t : ℕ) → 0 < t → t ≤ length inputs → is_healthy_at side events t ≡ is_healthy_by_script side inputs t

-- a script that is undisturbed up to t gives events that are
abbrev pub CalmIsTold : Type 0
CalmIsTold = (config : Settings) (crew : List (Option Plan)) (inputs : List InputData) (rounds : List RoundData) (events : List Event)
    (s : State)
    → IsScript config inputs → Legal config crew inputs rounds events s
    → (t : ℕ) → t ≤ length inputs → CalmScript inputs t → IsUndisturbed events t

abbrev pub LawfulLocksOut : Type 0
LawfulLocksOut = (config : Settings) (crew : List (Option Plan)) (inputs : List InputData) (rounds : List RoundData) (path : List Settled)
    → config.ticks < 2 ^ 24 → (run : IsLawful config crew inputs rounds path) → IsLockedOut config run.events path

abbrev pub LawfulStartsOpen : Type 0
LawfulStartsOpen = (config : Settings) (crew : List (Option Plan)) (inputs : List InputData) (rounds : List RoundData)
    (path : List Settled) → config.ticks < 2 ^ 24 → (run : IsLawful config crew inputs rounds path) → StartsAreOpen config run.events
