-- The machine of two channels, step by step. All own.
use Rattle.std.specs.Prelude.{ℕ, ◌+◌, ◌-◌, Bool, true, false, not, ◌&&◌, ◌||◌, nat_lt, List, [], ◌∷◌, ◌++◌, length, get_or, Option, None, is_some}
use Rattle.lift_base.specs.declared.wires.TheConstants.{RESET}
use Rattle.lift_model.specs.Enums.{Kind, Override, Phase, Rest, Sampled, Published, Looked, Side, A, B}
use Rattle.lift_model.specs.Grant.{grant}
use Rattle.lift_model.specs.Records.{Settings, InputData}
use Rattle.lift_model.specs.Trace.{words_of}
use Rattle.lift_model.specs.Wires.{rises}
use Rattle.core_model.specs.Decision.{Kept, Told, decided, new_kept, new_locked}
use Rattle.core_model.specs.Settling.{Out, Settled, output, feedback, common, ordered, no_settled}
use Rattle.core_model.specs.Words.{is_off, alarm_of, publish_word, command_word}
use Rattle.core_model.specs.declared.SideStep.{SideStep}
use Rattle.core_model.specs.declared.SideStep.TheVariants.{Fail, Sample, Publish, Look, Command, RoguePublish, RogueCommand, RogueContactor}

-- one side: its channel's step and stamp, its supervisor, its contactor, and its words
pub record Channel : Type 0 where
  pub failed : Bool
  pub phase : Phase
  pub stamp : ℕ
  pub kept : Kept
  pub forced : Option Kind  -- None: its contactor follows the word
  pub publish : ℕ
  pub command : ℕ
  pub looked : ℕ
  pub seen : ℕ

-- both sides, the inputs so far, and what each tick settled; the tick is the number of inputs
pub record State : Type 0 where
  pub trace : List InputData
  pub path : List Settled
  pub a : Channel
  pub b : Channel

-- what may happen next: a tick with its input, a step of one side, or the exchange of one side for a new one
pub data Event : Type 0 where
  Tick : (input : InputData) → Event
  Step : (side : Side) (step : SideStep) → Event
  Exchange : (side : Side) → Event

-- one of the two sides
abbrev pub side_of : Side → State → Channel
side_of A s = s.a
side_of B s = s.b

-- the other side
abbrev pub other : Side → Side
other A = B
other B = A

-- this side given anew, all else as it was
abbrev pub with_side : Side → State → Channel → State
with_side A s c = record s { a = c }
with_side B s c = record s { b = c }

-- a side's output at a tick
abbrev pub out_of : Channel → ℕ → Out
out_of c tick = record { kind = output c.forced c.command tick; forced = is_some c.forced; word = c.command; seen = c.seen }

-- what a tick settles from both sides as they stand; the alarm sounds with power alone (5.12.1.8)
abbrev pub settled_by : Channel → Channel → ℕ → Settled
settled_by a b tick =
    let power = common (output a.forced a.command tick) (output b.forced b.command tick) in
    let alarm = not (is_off power) && (alarm_of a.command || alarm_of b.command) in
    record { power = power; alarm = alarm; a = out_of a tick; b = out_of b tick }

-- nothing of the round is done
abbrev pub is_rest : Phase → Bool
is_rest Rest = true
is_rest phase = false

-- the last step was Sample
abbrev pub is_sampled : Phase → Bool
is_sampled Sampled = true
is_sampled phase = false

-- the last step was Publish
abbrev pub is_published : Phase → Bool
is_published Published = true
is_published phase = false

-- the last step was Look
abbrev pub is_looked : Phase → Bool
is_looked Looked = true
is_looked phase = false

-- the side may make this step after so many ticks: a healthy one its four in turn, one round a tick at most; a failed one what it likes
abbrev pub may : Channel → ℕ → SideStep → Bool
may c ticks Fail = not c.failed
may c ticks Sample = not c.failed && is_rest c.phase && nat_lt c.stamp ticks
may c ticks Publish = not c.failed && is_sampled c.phase
may c ticks Look = not c.failed && is_published c.phase
may c ticks Command = not c.failed && is_looked c.phase
may c ticks (RoguePublish word) = c.failed
may c ticks (RogueCommand word) = c.failed
may c ticks (RogueContactor order) = c.failed

-- the event may come: of two sides only a failed one is exchanged
abbrev pub enabled : Settings → State → Event → Bool
enabled config s (Tick input) = nat_lt (length s.trace) config.ticks
enabled config s (Step side step) = may (side_of side s) (length s.trace) step
enabled config s (Exchange side) = (side_of side s).failed

-- what the last tick of a path settled, where both outputs are the feedback
abbrev pub last_settled : List Settled → Settled
last_settled path = get_or path (length path - 1) no_settled

-- what the present tick settled
abbrev pub present : State → Settled
present s = last_settled s.path

-- what a supervisor is told that saw this word: verdicts and reset at this stamp, feedback of the present tick
abbrev pub told_at : Settings → List InputData → List Settled → ℕ → ℕ → Told
told_at config trace path n seen = record {
  stamp = n;
  own = grant config trace n;
  before = grant config trace (n - 1);
  seen = seen;
  closed_a = feedback (last_settled path).a;
  closed_b = feedback (last_settled path).b;
  reset = rises (words_of trace) RESET n;
}

-- what a side's supervisor is told at its Command
abbrev pub told : Settings → State → Channel → Told
told config s c = told_at config s.trace s.path c.stamp c.looked

-- it is failed from now on
abbrev pub failed : Channel → Channel
failed c = record c { failed = true }

-- it sampled at tick n
abbrev pub sampled : Channel → ℕ → Channel
sampled c n = record c { phase = Sampled; stamp = n }

-- it stored this publish word
abbrev pub published : Channel → Phase → ℕ → Channel
published c phase word = record c { phase = phase; publish = word }

-- it copied this word of the other
abbrev pub looked : Channel → ℕ → Channel
looked c word = record c { phase = Looked; looked = word }

-- it decided and stored the command word; the looked word is now the seen word of its last Command
abbrev pub commanded : Channel → Told → Channel
commanded c t = let d = decided c.kept t in record c { phase = Rest; kept = d.kept; command = command_word d.command; seen = c.looked }

-- a failed side stored this command word
abbrev pub rogue_command : Channel → ℕ → Channel
rogue_command c word = record c { command = word }

-- a failed side gave its contactor an order
abbrev pub rogue_contactor : Channel → Override → Channel
rogue_contactor c order = record c { forced = ordered c.forced order }

-- what a step makes of the side: after these inputs and what they settled, where this is the other side's publish word
abbrev pub does : Settings → List InputData → List Settled → ℕ → SideStep → Channel → Channel
does config trace path peer Fail c = failed c
does config trace path peer Sample c = sampled c (length trace)
does config trace path peer Publish c = published c Published (publish_word c.stamp (grant config trace c.stamp))
does config trace path peer Look c = looked c peer
does config trace path peer Command c = commanded c (told_at config trace path c.stamp c.looked)
does config trace path peer (RoguePublish word) c = published c c.phase word
does config trace path peer (RogueCommand word) c = rogue_command c word
does config trace path peer (RogueContactor order) c = rogue_contactor c order

-- a side at the start: healthy, at rest, its contactor follows, all words 0
abbrev pub new_channel : Channel
new_channel = record {
  failed = false;
  phase = Rest;
  stamp = 0;
  kept = new_kept;
  forced = None;
  publish = 0;
  command = 0;
  looked = 0;
  seen = 0;
}

-- a side that was put in the place of a failed one: as at the start, but its supervisor is locked
abbrev pub exchanged : Channel
exchanged = record new_channel { kept = new_locked }

-- what an event makes of the state; a Tick settles from the words as they stand, then the input joins
abbrev pub next : Settings → State → Event → State
next config s (Tick input) = record s { trace = s.trace ++ input ∷ []; path = s.path ++ settled_by s.a s.b (length s.trace + 1) ∷ [] }
next config s (Step side step) =
    with_side side s (does config s.trace s.path (side_of (other side) s).publish step (side_of side s))
next config s (Exchange side) = with_side side s exchanged

-- the state before tick 1
abbrev pub start : State
start = record { trace = []; path = []; a = new_channel; b = new_channel }
