-- The electric safety chain over one image (EN 81-20, 5.11.2; which contacts there are is own).
use Rattle.std.specs.Prelude.{ℕ, ◌+◌, Bool, false, not, ◌&&◌, ◌||◌, if◌then◌else◌, List, [], ◌∷◌, get_or, Option, Some, None}
use Rattle.lift_model.specs.Records.{ImageData}
use Rattle.lift_model.specs.Enums.{Mode, Normal, Inspection, Emergency}
use Rattle.lift_model.specs.Bits.{has, first_below}
use Rattle.lift_base.specs.declared.TheConstants.{CONTACTS}
use Rattle.lift_model.specs.Wires.{is_made}
use Rattle.lift_base.specs.declared.contacts.TheConstants.{EMERGENCY_SET, CAR_DOOR_SET, LANDING_SET}
use Rattle.lift_base.specs.declared.sources.TheConstants.{ROOF, PIT, CAR, DOORS, PLATFORM}
use Rattle.lift_base.specs.declared.station_bits.TheConstants.{STOP, SAFETY_GEAR}
use Rattle.lift_base.specs.declared.door_bits.TheConstants.{CAR_DOOR, LANDING_DOORS, LANDING_LOCKS}

-- a value that is not there has no bit
abbrev pub value_has : Option ℕ → ℕ → Bool
value_has None bit = false
value_has (Some value) bit = has value bit

-- the source with this index has a live value with this bit made
abbrev pub source_has : ImageData → ℕ → ℕ → Bool
source_has image source bit = value_has (get_or image.values source None) bit

-- where a contact comes from: a wire, or a bit of a source
pub data Contact : Type 0 where
  Wire : (wire : ℕ) → Contact
  Bit : (source bit : ℕ) → Contact

-- panel_stop, governor, final_limit, ascending, buffers, slack_rope, pit_door;
-- pit_stop, roof_stop, car_stop, safety_gear, car_door, landing_doors, landing_locks, platform_stop (own)
abbrev pub contact : ℕ → Contact
contact i =
    get_or (Wire 0 ∷ Wire 1 ∷ Wire 2 ∷ Wire 3 ∷ Wire 4 ∷ Wire 5 ∷ Wire 6
    ∷ Bit PIT STOP ∷ Bit ROOF STOP ∷ Bit CAR STOP ∷ Bit ROOF SAFETY_GEAR
    ∷ Bit DOORS CAR_DOOR ∷ Bit DOORS LANDING_DOORS ∷ Bit DOORS LANDING_LOCKS ∷ Bit PLATFORM STOP ∷ []) i (Wire 0)

-- it is made, where the list says of each source whether it is configured; without its source it counts as made
abbrev pub shows : ImageData → List Bool → Contact → Bool
shows image there (Wire wire) = is_made image.words wire
shows image there (Bit source bit) = not (get_or there source false) || source_has image source bit

-- contact i is made
unfoldable pub is_contact_made : ImageData → List Bool → ℕ → Bool
is_contact_made image there i = shows image there (contact i)

-- the door contacts that a bypass looks past, bit i for contact i (5.12.1.8)
abbrev pub bypass_set : Bool → Bool → ℕ
bypass_set car landing = (if car then CAR_DOOR_SET else 0) + (if landing then LANDING_SET else 0)

-- the contacts that a mode looks past: none in Normal, in Emergency six and the bypass (5.12.1.6, 5.12.1.8)
abbrev pub inoperative : Mode → Bool → Bool → ℕ
inoperative Normal car landing = 0
inoperative Inspection car landing = bypass_set car landing
inoperative Emergency car landing = EMERGENCY_SET + bypass_set car landing

-- neither looked past nor made
abbrev pub is_open : ImageData → List Bool → ℕ → ℕ → Bool
is_open image there past i = not (has past i) && not (is_contact_made image there i)

-- the first open contact of the chain (5.11.2)
abbrev pub first_open : ImageData → List Bool → ℕ → Option ℕ
first_open image there past = first_below CONTACTS (is_open image there past)
