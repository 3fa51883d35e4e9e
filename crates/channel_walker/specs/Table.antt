-- What a row of the contact table says.
use Rattle.std.specs.Prelude.{◌<◌, Bool, false, not, ◌&&◌, ◌||◌, List, get_or}
use Rattle.lift_base.specs.declared.TheConstants.{SOURCES}
use Rattle.lift_base.specs.declared.wires.TheConstants.{WIRES}
use Rattle.lift_model.specs.Records.{ImageData}
use Rattle.lift_model.specs.Chain.{source_has}
use Rattle.lift_model.specs.Stations.{is_normal, is_emergency}
use Rattle.lift_model.specs.Wires as wires
use Rattle.channel_walker.specs.declared.contacts.Operation.{Operation}
use Rattle.channel_walker.specs.declared.contacts.Contact.{Contact, TheVariants.Wire, TheVariants.Bit}
use Rattle.channel_walker.specs.declared.contacts.Past.{Past}
use Rattle.channel_walker.specs.declared.contacts.Past.TheVariants.{Nothing, Emergency, CarBypass, LandingBypass}

-- the wire is one of the twelve, the source one of the image's, the bit one of a value's
abbrev pub IsInside : Contact → Type 0
IsInside (Wire wire) = wire < WIRES
IsInside (Bit source bit) = (source < SOURCES) × (bit < 16)

-- it is made; a bit of a source that is not configured counts as made
abbrev pub is_made : ImageData → List Bool → Contact → Bool
is_made image there (Wire wire) = wires.is_made image.words wire
is_made image there (Bit source bit) = not (get_or there source false) || source_has image source bit

-- it is inoperative in this operation (5.12.1.6, 5.12.1.8)
abbrev pub is_past : Past → Operation → Bool
is_past Nothing operation = false
is_past Emergency operation = is_emergency operation.mode
is_past CarBypass operation = operation.bypass_car && not (is_normal operation.mode)
is_past LandingBypass operation = operation.bypass_landing && not (is_normal operation.mode)
