-- The pit latch (5.12.1.5) and the monitoring of the doors (5.12.1.9); the exact forms are own.
use Rattle.std.specs.Prelude.{Bool, not, ◌&&◌, ◌||◌, List, take, length, get_or, None, is_some}
use Rattle.lift_model.specs.Chain.{source_has}
use Rattle.lift_model.specs.Records.{Settings, InputData, ImageData}
use Rattle.lift_model.specs.Ticks.{row, latched}
use Rattle.lift_model.specs.Trace.{words_of, image_at_end}
use Rattle.lift_model.specs.Wires.{rises}
use Rattle.lift_base.specs.declared.sources.TheConstants.{PIT, DOORS}
use Rattle.lift_base.specs.declared.station_bits.TheConstants.{INSPECTION, STOP}
use Rattle.lift_base.specs.declared.door_bits.TheConstants.{CAR_DOOR, LANDING_DOORS, LANDING_LOCKS, MONITOR, ZONE, DOOR_OPEN, LOCK_RELEASED}
use Rattle.lift_base.specs.declared.wires.TheConstants.{RESET, PIT_RESET}

-- the switch in the pit stands at INSPECTION (5.12.1.5)
abbrev pub is_pit_inspecting : ImageData → Bool
is_pit_inspecting image = source_has image PIT INSPECTION

-- the pit is live, at NORMAL, its stop inactive, and the landing doors are closed and locked (own)
abbrev pub is_good_for_pit_reset : ImageData → Bool
is_good_for_pit_reset image = is_some (get_or image.values PIT None) && not (source_has image PIT INSPECTION) && source_has image PIT STOP
    && source_has image DOORS LANDING_DOORS && source_has image DOORS LANDING_LOCKS

-- latched by inspection in the pit, cleared where the pit's reset rises at a good tick (5.12.1.5)
unfoldable pub is_pit_latched : Settings → List InputData → Bool
is_pit_latched config inputs =
    latched (λ u. is_pit_inspecting (image_at_end config (take u inputs)))
    (λ u. rises (words_of inputs) PIT_RESET u && is_good_for_pit_reset (image_at_end config (take u inputs)))
    (length inputs)

-- in the zone, open and released, and yet a door contact or the monitor is made (5.12.1.9)
abbrev pub is_door_stuck : ImageData → Bool
is_door_stuck image = source_has image DOORS ZONE && source_has image DOORS DOOR_OPEN && source_has image DOORS LOCK_RELEASED
    && (source_has image DOORS CAR_DOOR || source_has image DOORS LANDING_DOORS || source_has image DOORS LANDING_LOCKS
    || source_has image DOORS MONITOR)

-- latched by so many such ticks in a row, cleared by the authorised reset (5.12.1.9)
unfoldable pub are_doors_faulty : Settings → List InputData → Bool
are_doors_faulty config inputs =
    latched (row config.door (λ t. is_door_stuck (image_at_end config (take t inputs)))) (rises (words_of inputs) RESET) (length inputs)
