-- Levelling with open doors inside the unlocking zone, and unintended movement. All own.
use Rattle.std.specs.Prelude.{ℕ, ◌-◌, Bool, not, ◌&&◌, ◌||◌, ◌==◌, List, take, length, get_or, None, is_some}
use Rattle.lift_base.specs.Ruling.{Ruling}
use Rattle.lift_model.specs.Chain.{source_has, is_contact_made}
use Rattle.lift_model.specs.Grant.{grant, verdict_at_end}
use Rattle.lift_model.specs.Records.{Settings, InputData, ImageData}
use Rattle.lift_model.specs.Stations.{is_normal}
use Rattle.lift_model.specs.Ticks.{latched}
use Rattle.lift_model.specs.Trace.{words_of, configured, image_at_end}
use Rattle.lift_model.specs.Wires.{is_made, rises}
use Rattle.lift_base.specs.declared.contacts.TheConstants.{CHAIN_CLAUSE, CAR_DOOR_CONTACT, LANDING_DOORS_CONTACT, LANDING_LOCKS_CONTACT, PLATFORM_STOP_CONTACT}
use Rattle.lift_base.specs.declared.door_bits.TheConstants.{CAR_DOOR, LANDING_LOCKS, ZONE}
use Rattle.lift_base.specs.declared.sources.TheConstants.{DOORS}
use Rattle.lift_base.specs.declared.wires.TheConstants.{RESET, LEVEL}

-- the doors have a value, and it shows the car in the unlocking zone
abbrev pub is_in_zone : ImageData → Bool
is_in_zone image = source_has image DOORS ZONE

-- the doors have a value, and it shows the car outside the zone, and the car door or the landing locks not made
abbrev pub is_open_outside : ImageData → Bool
is_open_outside image = is_some (get_or image.values DOORS None) && not (source_has image DOORS ZONE)
    && (not (source_has image DOORS CAR_DOOR) || not (source_has image DOORS LANDING_LOCKS))

-- at the first image the car is in the zone, at the second it is outside with an open door, in normal operation without a bypass
abbrev pub leaves : ImageData → ImageData → Ruling → Bool
leaves before image verdict = is_in_zone before && is_open_outside image && is_normal verdict.mode && not verdict.bypass

-- it leaves so at this tick of a trace; before tick 1 no source has a value
unfoldable pub leaves_at : Settings → List InputData → ℕ → Bool
leaves_at config trace u =
    leaves (image_at_end config (take (u - 1) trace)) (image_at_end config (take u trace)) (grant config trace u)

-- an unintended movement stands: at some tick the car left so, and the authorised reset did not rise after that
unfoldable pub has_moved : Settings → List InputData → Bool
has_moved config inputs = latched (leaves_at config inputs) (rises (words_of inputs) RESET) (length inputs)

-- the first open contact of the chain is one of the doors, in normal operation; the clauses before the chain hold
abbrev pub waits_for_doors : Ruling → Bool
waits_for_doors verdict = verdict.clause == CHAIN_CLAUSE && is_normal verdict.mode
    && (verdict.detail == CAR_DOOR_CONTACT || verdict.detail == LANDING_DOORS_CONTACT || verdict.detail == LANDING_LOCKS_CONTACT)

-- the chain waits for the doors alone, in the zone, and levelling is asked for; the platform's stop comes after the doors in the chain,
-- so it is asked apart. The list tells of each source whether it is configured
abbrev pub is_good_to_level : ImageData → List Bool → Ruling → Bool
is_good_to_level image there verdict = waits_for_doors verdict && is_in_zone image
    && is_contact_made image there PLATFORM_STOP_CONTACT && is_made image.words LEVEL

-- levelling with open doors is permitted at the last of these ticks
unfoldable pub may_level : Settings → List InputData → Bool
may_level config inputs =
    is_good_to_level (image_at_end config inputs) (configured config) (verdict_at_end config inputs) && not (has_moved config inputs)
