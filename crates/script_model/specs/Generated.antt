-- The script that is generated from a number: 250 blocks of 200 ticks, each by the case that is drawn for it.
use Rattle.std.specs.Prelude.{ℕ, zero, suc, ◌+◌, ◌-◌, ◌*◌, ◌/◌, ◌%◌, ◌^◌, ◌==◌, nat_le, nat_lt, Bool, ◌&&◌, ◌||◌, if◌then◌else◌, List, [], ◌∷◌, ◌++◌, get_or, Some, None}
use Rattle.lift_model.specs.Records.{FrameData, InputData, Settings}
use Rattle.script_model.specs.declared.cases.Case.{Case}
use Rattle.script_model.specs.declared.cases.Case.TheVariants.{Ride, OpenDoors, RoofStation, Emergency, TwoStations, GovernorTrip}
use Rattle.script_model.specs.Faults.{no_faults}
use Rattle.script_model.specs.Judging.{ScriptData}

-- ---- the case of a block

abbrev pub next_draw : ℕ → ℕ
next_draw x = (1664525 * x + 1013904223) % 2 ^ 32

-- what is drawn for the block before this one, from the number on
unfoldable pub draw : ℕ → ℕ → ℕ
draw number zero = number
draw number (suc block) = next_draw (draw number block)

-- by the three highest bits of 32
abbrev pub case_of : ℕ → Case
case_of drawn =
    let eighth = drawn / 2 ^ 29 in
    if nat_lt eighth 3 then Ride
    else if eighth == 3 then OpenDoors
    else if eighth == 4 then RoofStation
    else if eighth == 5 then Emergency
    else if eighth == 6 then TwoStations
    else GovernorTrip

-- ---- what it shows at a place of its block, 0 to 199

abbrev pub within : ℕ → ℕ → ℕ → Bool
within from to place = nat_le from place && nat_le place to

-- where the car is to move
abbrev pub is_middle : ℕ → Bool
is_middle place = within 10 189 place

-- roof, pit, car, doors, panel, and the platform, which sends nothing
abbrev pub truth_at_rest : List ℕ
truth_at_rest = 0x0030 ∷ 0x0010 ∷ 0x0010 ∷ 0x000F ∷ 0x0000 ∷ 0x0000 ∷ []

abbrev pub truth_at : Case → ℕ → List ℕ
truth_at Ride place = truth_at_rest
truth_at OpenDoors place =
    if within 40 159 place then 0x0030 ∷ 0x0010 ∷ 0x0010 ∷ 0x0070 ∷ 0x0000 ∷ 0x0000 ∷ [] else truth_at_rest
truth_at RoofStation place =
    if is_middle place then 0x0037 ∷ 0x0010 ∷ 0x0010 ∷ 0x000F ∷ 0x0000 ∷ 0x0000 ∷ [] else truth_at_rest
truth_at Emergency place =
    if is_middle place then 0x0030 ∷ 0x0010 ∷ 0x0010 ∷ 0x000F ∷ 0x0003 ∷ 0x0000 ∷ [] else truth_at_rest
truth_at TwoStations place =
    if is_middle place then 0x003B ∷ 0x001B ∷ 0x0010 ∷ 0x000F ∷ 0x0000 ∷ 0x0000 ∷ [] else truth_at_rest
truth_at GovernorTrip place = truth_at_rest

-- the wires that are made: at rest all contacts and limits (01FF); the request is 0800, the pit's reset 0400, the governor 0002
abbrev pub made_at : Case → ℕ → ℕ
made_at Ride place = if within 150 159 place then 0x0DFF else if is_middle place then 0x09FF else 0x01FF
made_at OpenDoors place = if within 10 39 place || within 170 189 place then 0x09FF else 0x01FF
made_at RoofStation place = 0x01FF
made_at Emergency place = if is_middle place then 0x01FD else 0x01FF
made_at TwoStations place = 0x01FF
made_at GovernorTrip place =
    if within 10 99 place then 0x09FF
    else if within 100 189 place then 0x09FD
    else if within 190 199 place then 0x01FD
    else 0x01FF

-- ---- the ticks

-- a value in the two frames of a pair
abbrev pub pair_of_value : ℕ → ℕ → List FrameData
pair_of_value id value =
    let low = value % 256 in
    let high = value / 256 in
    record { id = id; bytes = low ∷ high ∷ [] } ∷ record { id = id + 1; bytes = (255 - low) ∷ (255 - high) ∷ [] } ∷ []

-- of each twenty ticks the first five have a source's pair each, in the order of the sources
abbrev pub frames_at : ℕ → List ℕ → List FrameData
frames_at tick truth =
    let source = tick % 20 in
    if within 1 5 source then pair_of_value (255 + 2 * source) (get_or truth (source - 1) 0) else []

abbrev pub input_at : Case → ℕ → ℕ → InputData
input_at case place tick =
    let truth = truth_at case place in
    let made = made_at case place in
    record { frames = frames_at tick truth; words = record { a = made; b = 0x0FFF - made }; truth = truth; faults = no_faults }

-- the input of a tick, by the block that it stands in and its place there
abbrev pub generated_input : ℕ → ℕ → InputData
generated_input number tick = input_at (case_of (draw number ((tick - 1) / 200 + 1))) ((tick - 1) % 200) tick

-- those of the first ticks
unfoldable pub inputs_to : ℕ → ℕ → List InputData
inputs_to number zero = []
inputs_to number (suc ticks) = inputs_to number ticks ++ generated_input number (suc ticks) ∷ []

abbrev pub generated_settings : Settings
generated_settings = record {
  ticks = 50000;
  sct = 25;
  srvt = 20;
  disc = 5;
  door = 10;
  roof = 0x101;
  pit = 0x103;
  car = Some 0x105;
  doors = 0x107;
  panel = 0x109;
  platform = None;
}

unfoldable pub generated : ℕ → ScriptData
generated number = record { config = generated_settings; inputs = inputs_to number 50000; steps = [] }
