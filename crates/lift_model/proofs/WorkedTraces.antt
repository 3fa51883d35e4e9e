-- Wires, latches and verdicts over whole traces, computed by hand.
use Rattle.std.proofs.Common.{◌≡◌, ℕ, ◌+◌, true, false, List, [], ◌∷◌, ◌++◌, None, Some, refl}
use Rattle.lift_base.specs.Ruling.{Ruling, initial}
use Rattle.lift_base.specs.declared.Kind.TheVariants.{Off, Full}
use Rattle.lift_base.specs.declared.Mode.{Mode}
use Rattle.lift_base.specs.declared.Mode.TheVariants.{Normal, Inspection}
use Rattle.lift_base.specs.declared.Override.TheVariants.{Keep}
use Rattle.lift_model.specs.Bits.{first_below, some_below}
use Rattle.lift_model.specs.Chain.{is_contact_made}
use Rattle.lift_model.specs.Grant.{grant, verdict_of, verdict_at_end}
use Rattle.lift_model.specs.Latches.{is_pit_latched, are_doors_faulty}
use Rattle.lift_model.specs.Live.{is_pair}
use Rattle.lift_model.specs.Records.{Settings, FrameData, WireWords, SideFaultData, InputData}
use Rattle.lift_model.specs.Ticks.{some_to, each_to, row, latched}
use Rattle.lift_model.specs.Trace.{image_at_end}
use Rattle.lift_model.specs.Wires.{rises, has_contact_fault}

abbrev head : Settings
head = record {
  ticks = 100;
  sct = 25;
  srvt = 10;
  disc = 2;
  door = 3;
  roof = 0x101;
  pit = 0x103;
  car = Some 0x105;
  doors = 0x107;
  panel = 0x109;
  platform = None;
}

abbrev quiet : SideFaultData
quiet = record {
  fail = false;
  hold = false;
  exchange = false;
  publish = None;
  command = None;
  contactor = Keep;
  dismiss = false;
  give = None;
}

abbrev input : List FrameData → ℕ → ℕ → InputData
input frames a b = record { frames = frames; words = record { a = a; b = b }; truth = []; faults = record { a = quiet; b = quiet } }

-- the pair of a source whose second byte is 0
abbrev pair : ℕ → ℕ → ℕ → List FrameData
pair id x y = record { id = id; bytes = x ∷ 0x00 ∷ [] } ∷ record { id = id + 1; bytes = y ∷ 0xFF ∷ [] } ∷ []

abbrev refuses : ℕ → ℕ → Mode → Ruling
refuses clause detail mode = record { kind = Off; clause = clause; detail = detail; mode = mode; bypass = false }

abbrev full : Ruling
full = record { kind = Full; clause = 0; detail = 0; mode = Normal; bypass = false }

abbrev others : List FrameData
others = pair 0x101 0x30 0xCF ++ (pair 0x105 0x10 0xEF ++ (pair 0x107 0x0F 0xF0 ++ pair 0x109 0x00 0xFF))

-- ---- wires

abbrev words : ℕ → ℕ → WireWords
words a b = record { a = a; b = b }

-- a wire that is made at tick 1 rises there, and not again at tick 2
first_rise : rises (words 0x0200 0x0DFF ∷ words 0x0200 0x0DFF ∷ []) 9 1 ≡ true
first_rise = refl

no_second_rise : rises (words 0x0200 0x0DFF ∷ words 0x0200 0x0DFF ∷ []) 9 2 ≡ false
no_second_rise = refl

-- wire 0 is discrepant at ticks 1 and 2, which is a row of two
short_row : has_contact_fault 2 (words 0x0000 0x0FFE ∷ []) 1 ≡ false
unfolding some_below row latched some_to each_to
short_row = refl

whole_row : has_contact_fault 2 (words 0x0000 0x0FFE ∷ words 0x0000 0x0FFE ∷ words 0x0001 0x0FFE ∷ []) 3 ≡ true
unfolding some_below row latched some_to each_to
whole_row = refl

-- a tick of wire 0 and a tick of wire 1 are no row of one wire
two_wires : has_contact_fault 2 (words 0x0000 0x0FFE ∷ words 0x0000 0x0FFD ∷ []) 2 ≡ false
unfolding some_below row latched some_to each_to
two_wires = refl

-- the reset rises at tick 3, when no wire is discrepant
reset_clears : has_contact_fault 2 (words 0x0000 0x0FFE ∷ words 0x0000 0x0FFE ∷ words 0x0200 0x0DFF ∷ []) 3 ≡ false
unfolding some_below row latched some_to each_to
reset_clears = refl

-- the row goes on at tick 3, so it ends there again, and the reset of that tick does not help
reset_in_the_row : has_contact_fault 2 (words 0x0000 0x0FFE ∷ words 0x0000 0x0FFE ∷ words 0x0200 0x0DFE ∷ []) 3 ≡ true
unfolding some_below row latched some_to each_to
reset_in_the_row = refl

-- ---- latches

-- the pit inspects, and is at NORMAL
abbrev pit_used : InputData
pit_used = input (pair 0x103 0x11 0xEE) 0x09FF 0x0600

abbrev pit_left : InputData
pit_left = input (pair 0x103 0x10 0xEF) 0x09FF 0x0600

-- the pit inspects at tick 1 and is at NORMAL at tick 2; its reset, wire 10, rises at tick 3
abbrev pit_ride : List InputData
pit_ride = input (pair 0x103 0x11 0xEE ++ others) 0x09FF 0x0600 ∷ pit_left ∷ input [] 0x0DFF 0x0200 ∷ []

pit_latches : is_pit_latched head (pit_used ∷ pit_left ∷ []) ≡ true
unfolding is_pit_latched latched some_to each_to image_at_end is_pair
pit_latches = refl

pit_is_reset : is_pit_latched head pit_ride ≡ false
unfolding is_pit_latched latched some_to each_to image_at_end is_pair
pit_is_reset = refl

-- the landing locks are open at tick 3: bit 2 of doors
pit_stays_latched : is_pit_latched head (pit_used ∷ pit_left ∷ input (pair 0x107 0x0B 0xF4) 0x0DFF 0x0200 ∷ []) ≡ true
unfolding is_pit_latched latched some_to each_to image_at_end is_pair
pit_stays_latched = refl

-- doors 71: the car door is made, in the zone, open and released; three ticks of it are a row
abbrev stuck : InputData
stuck = input (pair 0x107 0x71 0x8E) 0x09FF 0x0600

two_stuck_ticks : are_doors_faulty head (stuck ∷ stuck ∷ []) ≡ false
unfolding are_doors_faulty row latched some_to each_to image_at_end is_pair
two_stuck_ticks = refl

three_stuck_ticks : are_doors_faulty head (stuck ∷ stuck ∷ stuck ∷ input (pair 0x107 0x0F 0xF0) 0x09FF 0x0600 ∷ []) ≡ true
unfolding are_doors_faulty row latched some_to each_to image_at_end is_pair
three_stuck_ticks = refl

doors_are_reset : are_doors_faulty head (stuck ∷ stuck ∷ stuck ∷ input (pair 0x107 0x0F 0xF0) 0x0BFF 0x0400 ∷ []) ≡ false
unfolding are_doors_faulty row latched some_to each_to image_at_end is_pair
doors_are_reset = refl

-- ---- verdicts

before_tick_one : grant head (input others 0x09FF 0x0600 ∷ []) 0 ≡ initial
unfolding verdict_at_end
before_tick_one = refl

-- all but the pit are there: the second source is missing
pit_is_missing : grant head (input others 0x09FF 0x0600 ∷ []) 1 ≡ refuses 1 2 Normal
unfolding verdict_at_end verdict_of latched some_to each_to row some_below is_pit_latched are_doors_faulty image_at_end is_pair
    is_contact_made first_below
pit_is_missing = refl

-- a platform that is configured and sends nothing: the sixth source is missing
platform_is_missing : grant (record head { platform = Some 0x10B }) (input (pair 0x103 0x10 0xEF ++ others) 0x09FF 0x0600 ∷ []) 1
    ≡ refuses 1 6 Normal
unfolding verdict_at_end verdict_of latched some_to each_to row some_below is_pit_latched are_doors_faulty image_at_end is_pair
    is_contact_made first_below
platform_is_missing = refl

platform_is_there : grant (record head { platform = Some 0x10B })
    (input (pair 0x103 0x10 0xEF ++ (others ++ pair 0x10B 0x10 0xEF)) 0x09FF 0x0600 ∷ []) 1 ≡ full
unfolding verdict_at_end verdict_of latched some_to each_to row some_below is_pit_latched are_doors_faulty image_at_end is_pair
    is_contact_made first_below
platform_is_there = refl

all_are_there : grant head (input (pair 0x103 0x10 0xEF ++ others) 0x09FF 0x0600 ∷ []) 1 ≡ full
unfolding verdict_at_end verdict_of latched some_to each_to row some_below is_pit_latched are_doors_faulty image_at_end is_pair
    is_contact_made first_below
all_are_there = refl

-- tick 1: no RUN at the pit, which inspects; tick 2: latched; tick 3: reset
pit_ride_inspects : grant head pit_ride 1 ≡ refuses 9 0 Inspection
unfolding verdict_at_end verdict_of latched some_to each_to row some_below is_pit_latched are_doors_faulty image_at_end is_pair
    is_contact_made first_below
pit_ride_inspects = refl

pit_ride_is_latched : grant head pit_ride 2 ≡ refuses 5 0 Normal
unfolding verdict_at_end verdict_of latched some_to each_to row some_below is_pit_latched are_doors_faulty image_at_end is_pair
    is_contact_made first_below
pit_ride_is_latched = refl

pit_ride_is_free : grant head pit_ride 3 ≡ full
unfolding verdict_at_end verdict_of latched some_to each_to row some_below is_pit_latched are_doors_faulty image_at_end is_pair
    is_contact_made first_below
pit_ride_is_free = refl
