-- What a single fault does tick by tick. All own.
use Rattle.std.specs.Prelude.{ℕ, ◌-◌, ◌==◌, ◌&&◌, nat_lt, Bool, true, false, if◌then◌else◌, List, get_or, Option, Some, None}
use Rattle.lift_model.specs.Enums.{Kind, Override, Keep, Force, Side, A, B}
use Rattle.lift_model.specs.Records.{FaultData, SideFaultData}
use Rattle.core_model.specs.Machine.{other}
use Rattle.core_model.specs.Words.{command_word}
use Rattle.script_model.specs.Faults.{no_fault, no_faults}
use Rattle.fault_plan.specs.declared.single.SingleFault.{SingleFault}
use Rattle.fault_plan.specs.declared.single.What.{What}
use Rattle.fault_plan.specs.declared.single.What.TheVariants.{Silent, Wrong, Fresh, Others, Last, Right, Forced, Held, Exchanged, ExchangedAndReset}
use Rattle.fault_plan.specs.declared.words.SideWords.{SideWords}
use Rattle.fault_plan.specs.declared.words.TickWords.{TickWords}

-- before the first tick no word is stored
abbrev pub no_words : TickWords
no_words = record { a = record { publish = 0; command = 0 }; b = record { publish = 0; command = 0 } }

-- the words of both sides as tick n of the run without a fault ends
abbrev pub words_in : List TickWords → ℕ → TickWords
words_in words n = if n == 0 then no_words else get_or words (n - 1) no_words

abbrev pub of_side : Side → TickWords → SideWords
of_side A w = w.a
of_side B w = w.b

-- the word of a kind with this stamp: it says the same as a publish and as a command word
abbrev pub fresh : Kind → ℕ → ℕ
fresh kind tick = command_word (record { stamp = tick; kind = kind; reason = 0; detail = 0; alarm = false })

abbrev pub twice : ℕ → Option SideWords
twice word = Some (record { publish = word; command = word })

-- the words that the failed side stores in a tick, where it stores any
abbrev pub stored : List TickWords → Side → What → ℕ → Option SideWords
stored words side Silent tick = None
stored words side (Wrong word) tick = twice word
stored words side (Fresh kind) tick = twice (fresh kind tick)
stored words side Others tick = Some (of_side (other side) (words_in words tick))
stored words side Last tick = Some (of_side side (words_in words (tick - 1)))
stored words side Right tick = Some (of_side side (words_in words tick))
stored words side (Forced kind) tick = Some (of_side side (words_in words tick))
stored words side (Held ticks) tick = None
stored words side (Exchanged after) tick = None
stored words side (ExchangedAndReset after) tick = None

abbrev pub publish_of : Option SideWords → Option ℕ
publish_of None = None
publish_of (Some w) = Some w.publish

abbrev pub command_of : Option SideWords → Option ℕ
command_of None = None
command_of (Some w) = Some w.command

-- the side fails in the fault's first tick
abbrev pub fails : What → Bool
fails Silent = true
fails (Wrong word) = true
fails (Fresh kind) = true
fails Others = true
fails Last = true
fails Right = true
fails (Forced kind) = true
fails (Held ticks) = false
fails (Exchanged after) = true
fails (ExchangedAndReset after) = true

-- it is held so many ticks after that one
abbrev pub is_held : What → ℕ → Bool
is_held Silent since = false
is_held (Wrong word) since = false
is_held (Fresh kind) since = false
is_held Others since = false
is_held Last since = false
is_held Right since = false
is_held (Forced kind) since = false
is_held (Held ticks) since = nat_lt since ticks
is_held (Exchanged after) since = false
is_held (ExchangedAndReset after) since = false

-- it is exchanged so many ticks after that one, never in that one itself
abbrev pub is_exchanged : What → ℕ → Bool
is_exchanged Silent since = false
is_exchanged (Wrong word) since = false
is_exchanged (Fresh kind) since = false
is_exchanged Others since = false
is_exchanged Last since = false
is_exchanged Right since = false
is_exchanged (Forced kind) since = false
is_exchanged (Held ticks) since = false
is_exchanged (Exchanged after) since = nat_lt 0 since && since == after
is_exchanged (ExchangedAndReset after) since = nat_lt 0 since && since == after

-- the order to its contactor in that one
abbrev pub order_of : What → Override
order_of Silent = Keep
order_of (Wrong word) = Keep
order_of (Fresh kind) = Keep
order_of Others = Keep
order_of Last = Keep
order_of Right = Keep
order_of (Forced kind) = Force kind
order_of (Held ticks) = Keep
order_of (Exchanged after) = Keep
order_of (ExchangedAndReset after) = Keep

-- what it does so many ticks after its first
abbrev pub does : What → Option SideWords → ℕ → SideFaultData
does what words since = record {
  fail = fails what && (since == 0);
  hold = is_held what since;
  exchange = is_exchanged what since;
  publish = publish_of words;
  command = command_of words;
  contactor = if since == 0 then order_of what else Keep;
  dismiss = false;
  give = None;
}

-- what the fault does to its side in tick n, where these are the words of the run without it
unfoldable pub side_faults : List TickWords → SingleFault → ℕ → SideFaultData
side_faults words f n = if nat_lt n f.tick then no_fault else does f.what (stored words f.side f.what n) (n - f.tick)

-- to this side, and nothing to the other
abbrev pub on_side : Side → SideFaultData → FaultData
on_side A f = record no_faults { a = f }
on_side B f = record no_faults { b = f }

abbrev pub faults_in : List TickWords → SingleFault → ℕ → FaultData
faults_in words f n = on_side f.side (side_faults words f n)
