-- The turns of a round, and which rounds are legal.
use Rattle.std.specs.Prelude.{◌≡◌, ◌⊎◌, ℕ, Bool, true, false, List, length, Option, Some, None}
use Rattle.lift_base.specs.declared.Override.{Override}
use Rattle.lift_base.specs.declared.Override.TheVariants.{Keep, Follow, Force}
use Rattle.lift_base.specs.declared.Side.{Side}
use Rattle.lift_base.specs.declared.Side.TheVariants.{A, B}
use Rattle.lift_model.specs.Grant.{grant}
use Rattle.lift_model.specs.Plans.{Plan, IsDeed}
use Rattle.lift_model.specs.Records.{Settings, InputData, SideFaultData, DeedData}
use Rattle.core_model.specs.Decision.{Kept, Told, decided}
use Rattle.core_model.specs.Machine.{State, Tick, side_of, other, next, told_at}
use Rattle.core_model.specs.Words.{publish_word, command_word}
use Rattle.round_model.specs.Holding.{held_in}
use Rattle.round_model.specs.Parts.{faults_of, Part, part_of, Acting, Held, Failed, Exchanged}
use Rattle.round_model.specs.Records.{TurnData, RoundData}

abbrev pub turn_of : Side → RoundData → TurnData
turn_of A round = round.a
turn_of B round = round.b

-- a word after a turn
abbrev pub after : ℕ → Option ℕ → ℕ
after before None = before
after before (Some word) = word

-- the word that a side has published as its round ends
abbrev pub published_by : State → RoundData → Side → ℕ
published_by s round side = after (side_of side s).publish (turn_of side round).publish

abbrev pub held_turn : TurnData
held_turn = record { acted = false; failed = false; publish = None; seen = 0; command = None; contactor = Keep }

-- what a supervisor is told in the present tick, where it saw this word
abbrev pub told_now : Settings → State → ℕ → Told
told_now config s seen = told_at config s.trace s.path (length s.trace) seen

-- the turn of a healthy side that is not held: s is the state behind the tick
abbrev pub acting_turn : Settings → State → Kept → ℕ → TurnData
acting_turn config s kept seen = record {
  acted = true;
  failed = false;
  publish = Some (publish_word (length s.trace) (grant config s.trace (length s.trace)));
  seen = seen;
  command = Some (command_word (decided kept (told_now config s seen)).command);
  contactor = Keep;
}

-- the script's word, or the deed's where the script has none
abbrev pub either : Option ℕ → Option ℕ → Option ℕ
either (Some word) deed = Some word
either None deed = deed

abbrev pub is_keep : Override → Bool
is_keep Keep = true
is_keep Follow = false
is_keep (Force k) = false

abbrev pub order_of : Override → Override → Override
order_of Keep deed = deed
order_of Follow deed = Follow
order_of (Force k) deed = Force k

abbrev pub failed_turn : SideFaultData → DeedData → ℕ → TurnData
failed_turn f d seen = record {
  acted = true;
  failed = true;
  publish = either f.publish d.publish;
  seen = seen;
  command = either f.command d.command;
  contactor = order_of f.contactor d.contactor;
}

-- a failed side's turn: the deed is what it holds says
pub record IsFailedTurn (f : SideFaultData) (held : Option Plan) (turn : TurnData) : Type 0 where
  pub deed : DeedData
  pub told : IsDeed held turn.seen deed
  pub turned : turn ≡ failed_turn f deed turn.seen

-- a new side in the place of a failed one: both words are 0, and its contactor follows; it does not look
abbrev pub exchanged_turn : TurnData
exchanged_turn = record { acted = true; failed = false; publish = Some 0; seen = 0; command = Some 0; contactor = Follow }

-- an acting or a failed side looks
abbrev pub has_looked : Part → Bool
has_looked Acting = true
has_looked Held = false
has_looked Failed = true
has_looked Exchanged = false

-- a side saw the other's word as it stood before the round, or as it stands after it
abbrev pub Saw : State → RoundData → Side → Type 0
Saw s round side = ((turn_of side round).seen ≡ published_by s round (other side)) ⊎ ((turn_of side round).seen
    ≡ (side_of (other side) s).publish)

-- The round is legal where the machine stands in s, its Tick to come.
pub record IsLegalRound (config : Settings) (crew : List (Option Plan)) (s : State) (input : InputData) (round : RoundData) : Type 0 where
  pub held : (side : Side) → part_of side s.trace input ≡ Held → turn_of side round ≡ held_turn
  pub acting : (side : Side) → part_of side s.trace input ≡ Acting → turn_of side round ≡ acting_turn config (next config s (Tick input))
      (side_of side s).kept (turn_of side round).seen
  pub failed : (side : Side) → part_of side s.trace input ≡ Failed → IsFailedTurn (faults_of side input) (held_in crew side s.trace input)
      (turn_of side round)
  pub exchanged : (side : Side) → part_of side s.trace input ≡ Exchanged → turn_of side round ≡ exchanged_turn
  pub saw : (side : Side) → has_looked (part_of side s.trace input) ≡ true → Saw s round side
  pub crossed : part_of A s.trace input ≡ Acting → part_of B s.trace input ≡ Acting
      → (round.a.seen ≡ published_by s round B) ⊎ (round.b.seen ≡ published_by s round A)
