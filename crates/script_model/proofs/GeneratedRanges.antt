-- A generated script is one of Form Replay: all of it is in range.
use Rattle.std.proofs.Common.{ℕ, zero, suc, ◌≡◌, ◌+◌, ◌-◌, ◌*◌, ◌/◌, ◌%◌, ◌^◌, ◌≤◌, ◌<◌, Bool, true, false, ◌||◌, if◌then◌else◌, List, [], ◌∷◌, length, get_or, refl, arith}
use Rattle.std.specs.List.{AllByRecursion}
use Rattle.can_frame.specs.Frames.{IsFrameData}
use Rattle.lift_base.specs.declared.TheConstants.{SOURCES}
use Rattle.lift_base.specs.declared.limits.TheConstants.{MOST_FRAMES}
use Rattle.lift_config.specs.Ranges.{IsInRange}
use Rattle.lift_model.specs.Records.{FrameData}
use Rattle.script_model.specs.declared.cases.Case.{Case}
use Rattle.script_model.specs.declared.cases.Case.TheVariants.{Ride, OpenDoors, RoofStation, Emergency, TwoStations, GovernorTrip}
use Rattle.script_model.specs.Faults.{all_stand}
use Rattle.script_model.specs.Generated.{draw, case_of, within, is_middle, truth_at, truth_at_rest, made_at, pair_of_value, frames_at, input_at, generated, generated_input, generated_settings, inputs_to}
use Rattle.script_model.specs.Valid.{IsInput, IsReplay}
use Rattle.script_model.proofs.Generating.{long}
use Rattle.script_model.proofs.GeneratedRules.{all_push, calm_follows, each_is_calm}

if_both : {A : Type 0} (P : A → Type 0) (b : Bool) (x y : A) → P x → P y → P (if b then x else y)
if_both P true x y one two = one
if_both P false x y one two = two

-- ---- words

abbrev IsWord : ℕ → Type 0
IsWord w = w < 2 ^ 16

-- six true words
abbrev AreTrue : List ℕ → Type 0
AreTrue truth = (length truth ≡ SOURCES) × AllByRecursion IsWord truth

six : (a b c d e f : ℕ) → IsWord a → IsWord b → IsWord c → IsWord d → IsWord e → IsWord f → AreTrue (a ∷ b ∷ c ∷ d ∷ e ∷ f ∷ [])
six a b c d e f fa fb fc fd fe ff = (refl, (fa, (fb, (fc, (fd, (fe, (ff, tt)))))))

at_rest : AreTrue truth_at_rest
at_rest = six 0x30 0x10 0x10 0x0F 0 0 (omega arith) (omega arith) (omega arith) (omega arith) (omega arith) (omega arith)

-- these or those at rest
or_rest : (b : Bool) (roof pit car doors panel : ℕ) → IsWord roof → IsWord pit → IsWord car → IsWord doors → IsWord panel
    → AreTrue (if b then roof ∷ pit ∷ car ∷ doors ∷ panel ∷ 0 ∷ [] else truth_at_rest)
or_rest b roof pit car doors panel fr fp fc fd fe =
    if_both AreTrue b (roof ∷ pit ∷ car ∷ doors ∷ panel ∷ 0 ∷ []) truth_at_rest
    (six roof pit car doors panel 0 fr fp fc fd fe (omega arith)) at_rest

truth_fits : (c : Case) (place : ℕ) → AreTrue (truth_at c place)
truth_fits Ride place = at_rest
truth_fits OpenDoors place =
    or_rest (within 40 159 place) 0x30 0x10 0x10 0x70 0 (omega arith) (omega arith) (omega arith) (omega arith) (omega arith)
truth_fits RoofStation place =
    or_rest (is_middle place) 0x37 0x10 0x10 0x0F 0 (omega arith) (omega arith) (omega arith) (omega arith) (omega arith)
truth_fits Emergency place =
    or_rest (is_middle place) 0x30 0x10 0x10 0x0F 3 (omega arith) (omega arith) (omega arith) (omega arith) (omega arith)
truth_fits TwoStations place =
    or_rest (is_middle place) 0x3B 0x1B 0x10 0x0F 0 (omega arith) (omega arith) (omega arith) (omega arith) (omega arith)
truth_fits GovernorTrip place = at_rest

-- the twelve wires
abbrev AreWires : ℕ → Type 0
AreWires made = made < 2 ^ 12

made_fits : (c : Case) (place : ℕ) → AreWires (made_at c place)
made_fits Ride place =
    if_both AreWires (within 150 159 place) _ _ (omega arith) (if_both AreWires (is_middle place) _ _ (omega arith) (omega arith))
made_fits OpenDoors place = if_both AreWires (within 10 39 place || within 170 189 place) _ _ (omega arith) (omega arith)
made_fits RoofStation place = omega arith
made_fits Emergency place = if_both AreWires (is_middle place) _ _ (omega arith) (omega arith)
made_fits TwoStations place = omega arith
made_fits GovernorTrip place =
    if_both AreWires (within 10 99 place) _ _ (omega arith) (if_both AreWires (within 100 189 place) _ _ (omega arith)
    (if_both AreWires (within 190 199 place) _ _ (omega arith) (omega arith)))

-- ---- frames

word_at : (words : List ℕ) (i : ℕ) → AllByRecursion IsWord words → IsWord (get_or words i 0)
word_at [] i all = omega arith
word_at (w ∷ words) zero (one, all) = one
word_at (w ∷ words) (suc i) (one, all) = word_at words i all

abbrev AreFrames : List FrameData → Type 0
AreFrames frames = (length frames ≤ MOST_FRAMES) × AllByRecursion IsFrameData frames

frame_fits : (id low high : ℕ) → id ≤ 0x7FF → low < 2 ^ 8 → high < 2 ^ 8 → IsFrameData (record { id = id; bytes = low ∷ high ∷ [] })
frame_fits id low high small first second = record { id = small; few = omega arith; bytes = (first, (second, tt)) }

pair_fits : (id value : ℕ) → id + 1 ≤ 0x7FF → IsWord value → AreFrames (pair_of_value id value)
pair_fits id value small word =
    let low = value % 256 in
    let high = value / 256 in
    let plain = frame_fits id low high (omega arith) (omega arith) (omega arith) in
    let inverted = frame_fits (id + 1) (255 - low) (255 - high) small (omega arith) (omega arith) in
    (omega arith, (plain, (inverted, tt)))

frames_fit : (tick : ℕ) (truth : List ℕ) → AllByRecursion IsWord truth → AreFrames (frames_at tick truth)
frames_fit tick truth words =
    let source = tick % 20 in
    let value = get_or truth (source - 1) 0 in
    if_both AreFrames (within 1 5 source) (pair_of_value (255 + 2 * source) value) []
    (pair_fits (255 + 2 * source) value (omega arith) (word_at truth (source - 1) words)) (omega arith, tt)

-- ---- inputs

input_fits : (c : Case) (place tick : ℕ) → IsInput (input_at c place tick)
input_fits c place tick =
    let truth = truth_fits c place in
    let made = made_fits c place in
    let frames = frames_fit tick (truth_at c place) truth.1 in
    record {
      few = frames.0;
      frames = frames.1;
      a = omega (arith, made);
      b = omega (arith, made);
      sources = truth.0;
      truth = truth.1;
      faults_a = record { publish = tt; command = tt; give = tt };
      faults_b = record { publish = tt; command = tt; give = tt };
    }

each_fits : (number ticks : ℕ) → AllByRecursion IsInput (inputs_to number ticks)
unfolding inputs_to
each_fits number zero = tt
each_fits number (suc ticks) = all_push IsInput (inputs_to number ticks) (generated_input number (suc ticks)) (each_fits number ticks)
    (input_fits (case_of (draw number ((suc ticks - 1) / 200 + 1))) ((suc ticks - 1) % 200) (suc ticks))

settings_fit : IsInRange generated_settings
settings_fit = record {
  some_tick = omega arith;
  ticks = omega arith;
  sct = omega arith;
  some_srvt = omega arith;
  srvt = omega arith;
  some_disc = omega arith;
  disc = omega arith;
  some_door = omega arith;
  door = omega arith;
  roof = refl;
  pit = refl;
  car = refl;
  doors = refl;
  panel = refl;
  platform = tt;
}

pub generated_is_replay : (places : List Bool) (number : ℕ) → IsReplay places (generated number)
unfolding generated
generated_is_replay places number =
    let count = long number 50000 in
    record {
      config = settings_fit;
      few = omega (arith, count);
      inputs = each_fits number 50000;
      faults = calm_follows (all_stand places) (inputs_to number 50000) (each_is_calm number 50000);
      steps = refl;
    }
