-- Lawful runs, and what is promised of them.
use Rattle.std.specs.Prelude.{◌≡◌, ◌⊎◌, ℕ, ◌-◌, ◌^◌, ◌<◌, ◌≤◌, true, List, [], ◌∷◌, ◌++◌, length, take, get_or, Option}
use Rattle.lift_base.specs.declared.Side.{Side}
use Rattle.lift_model.specs.Plans.{Plan}
use Rattle.lift_model.specs.Records.{Settings, InputData, SideFaultData}
use Rattle.core_model.specs.Backed.{Backed, SeenIsOthers}
use Rattle.core_model.specs.Decision.{Kept}
use Rattle.core_model.specs.Due.{IsPlain}
use Rattle.core_model.specs.Machine.{State, Event, other, start}
use Rattle.core_model.specs.Runs.{CoreRun, after_all}
use Rattle.core_model.specs.Settling.{Settled, no_settled, out_at}
use Rattle.core_model.specs.Words.{stamp_of}
use Rattle.round_model.specs.Events.{events_of}
use Rattle.round_model.specs.Parts.{Part, FailsOnceIn, CalmScript, is_healthy_by_script, Acting, Held, Failed, Exchanged}
use Rattle.round_model.specs.Records.{TurnData, RoundData}
use Rattle.round_model.specs.Turns.{after, turn_of, held_turn, acting_turn, exchanged_turn, IsFailedTurn, IsLegalRound}

-- One legal round for each tick, with the rounds' events joined and the state that they leave.
pub data Legal (config : Settings) (crew : List (Option Plan)) : List InputData → List RoundData → List Event → State → Type 0 where
  no_rounds : Legal config crew [] [] [] start
  then_round : {inputs : List InputData} {rounds : List RoundData} {events : List Event} {s : State}
      → Legal config crew inputs rounds events s
      → (input : InputData) (round : RoundData) → IsLegalRound config crew s input round
      → Legal config crew (inputs ++ input ∷ []) (rounds ++ round ∷ []) (events ++ events_of s input round)
      (after_all config s (events_of s input round))

-- The rounds are legal for this script, their events are a core run, and the path is that run's.
pub record IsLawful (config : Settings) (crew : List (Option Plan)) (inputs : List InputData) (rounds : List RoundData)
    (path : List Settled) : Type 0 where
  pub events : List Event
  pub state : State
  pub legal : Legal config crew inputs rounds events state
  pub run : CoreRun config events state
  pub same_path : path ≡ state.path

-- the script fits the config, and keeps the rule of failures and exchanges
pub record IsScript (config : Settings) (inputs : List InputData) : Type 0 where
  pub small : config.ticks < 2 ^ 24
  pub room : length inputs ≤ config.ticks
  pub once : FailsOnceIn inputs

-- legal rounds are a lawful run
abbrev pub LegalIsLawful : Type 0
LegalIsLawful = (config : Settings) (crew : List (Option Plan)) (inputs : List InputData) (rounds : List RoundData) (events : List Event)
    (s : State)
    → IsScript config inputs → Legal config crew inputs rounds events s → IsLawful config crew inputs rounds s.path

-- each tick is backed for each side that is healthy by the script
abbrev pub AreBacked : Settings → List InputData → List Settled → Type 0
AreBacked config inputs path = (t : ℕ) → 0 < t → t ≤ length path → (side : Side) → is_healthy_by_script side inputs t ≡ true
    → Backed config inputs t (get_or path (t - 1) no_settled) side

-- the publish word of a side after these rounds, where it was this before them
abbrev pub published_from : Side → ℕ → List RoundData → ℕ
published_from side word [] = word
published_from side word (round ∷ rounds) = published_from side (after word (turn_of side round).publish) rounds

-- the word that a side had published as round n ended; before round 1 it is 0
abbrev pub published_at : Side → List RoundData → ℕ → ℕ
published_at side rounds n = published_from side 0 (take n rounds)

-- At each tick the word that a healthy side saw is the other side's: the one that it had published as the round of the command's stamp
-- ended, or as that round began. That round came before the tick.
abbrev pub SeenIsOthersByRounds : List InputData → List RoundData → List Settled → Type 0
SeenIsOthersByRounds inputs rounds path = (t : ℕ) → 0 < t → t ≤ length path → (side : Side) → is_healthy_by_script side inputs t ≡ true
    → let out = out_at side (get_or path (t - 1) no_settled) in let n = stamp_of out.word in
    (n < t) × ((out.seen ≡ published_at (other side) rounds n) ⊎ (out.seen ≡ published_at (other side) rounds (n - 1)))

-- what is settled is what is due, as long as the script disturbs nothing
abbrev pub ArePlain : Settings → List InputData → List Settled → Type 0
ArePlain config inputs path = (t : ℕ) → 0 < t → t ≤ length path → CalmScript inputs t
    → IsPlain config inputs t (get_or path (t - 1) no_settled)

abbrev pub LawfulIsBacked : Type 0
LawfulIsBacked = (config : Settings) (crew : List (Option Plan)) (inputs : List InputData) (rounds : List RoundData) (path : List Settled)
    → IsScript config inputs → IsLawful config crew inputs rounds path → AreBacked config inputs path

abbrev pub LawfulSeesOthers : Type 0
LawfulSeesOthers = (config : Settings) (crew : List (Option Plan)) (inputs : List InputData) (rounds : List RoundData) (path : List Settled)
    → IsScript config inputs → (run : IsLawful config crew inputs rounds path)
    → SeenIsOthers config run.events path × SeenIsOthersByRounds inputs rounds path

abbrev pub LawfulIsPlain : Type 0
LawfulIsPlain = (config : Settings) (crew : List (Option Plan)) (inputs : List InputData) (rounds : List RoundData) (path : List Settled)
    → IsScript config inputs → IsLawful config crew inputs rounds path → ArePlain config inputs path

-- some events and a state that these rounds lead to
pub record AreLegal (config : Settings) (crew : List (Option Plan)) (inputs : List InputData) (rounds : List RoundData) : Type 0 where
  pub events : List Event
  pub state : State
  pub legal : Legal config crew inputs rounds events state

-- the promise of one side's turn, for one thread: t is the state behind the tick
abbrev pub IsTurn : Settings → State → Part → SideFaultData → Option Plan → Kept → TurnData → Type 0
IsTurn config t Acting f held kept u = u ≡ acting_turn config t kept u.seen
IsTurn config t Held f held kept u = u ≡ held_turn
IsTurn config t Failed f held kept u = IsFailedTurn f held u
IsTurn config t Exchanged f held kept u = u ≡ exchanged_turn

-- Each script has a list of legal rounds.
abbrev pub HasRounds : Type 0
HasRounds = (config : Settings) (crew : List (Option Plan)) (inputs : List InputData) → (rounds : List RoundData)
    × AreLegal config crew inputs rounds
