-- Which lanes took the power, by the reason that the report gives.
use Rattle.std.specs.Prelude.{ℕ, ◌==◌, nat_lt, nat_le, Bool, ◌&&◌, if◌then◌else◌, List, [], ◌∷◌, ◌++◌}
use Rattle.lift_base.specs.declared.Side.{Side}
use Rattle.lift_base.specs.declared.Side.TheVariants.{A, B}
use Rattle.lift_base.specs.declared.TheConstants.{SOURCES, CONTACTS}
use Rattle.lift_base.specs.declared.contacts.TheConstants.{CONTACT_FAULT}
use Rattle.lift_base.specs.declared.sources.TheConstants.{ROOF, PIT, CAR, PLATFORM}
use Rattle.lift_base.specs.declared.station_bits.TheConstants.{INSPECTION}
use Rattle.lift_base.specs.declared.wires.TheConstants.{UP_LIMIT, DOWN_LIMIT, REQUEST, WIRES}
use Rattle.lift_model.specs.Chain.{source_has}
use Rattle.lift_model.specs.Records.{ImageData}
use Rattle.core_model.specs.declared.numbers.TheConstants.{COMPARE, LOCKED}
use Rattle.script_model.specs.declared.reasons.TheConstants.{STALE, FORCED, KINDS_DIFFER}
use Rattle.ride_lanes.specs.declared.lanes.Lane.{Lane}
use Rattle.ride_lanes.specs.declared.lanes.Lane.TheVariants.{Gives, Sees, Source, Contact, Monitor, Wire, ContactFault, PitLatch, DoorsFaulty, Faults}
use Rattle.ride_lanes.specs.declared.takers.Taker.{Taker}
use Rattle.ride_lanes.specs.declared.takers.Taker.TheVariants.{One, BothGive, Stations}

-- that lane, where the detail names one, and else what the side gives
abbrev pub lane_if : Bool → Lane → Side → Taker
lane_if there key side = if there then One key else One (Gives side)

-- K2 names a wire, or the standing contact fault
abbrev pub wire_taker : ℕ → Side → Taker
wire_taker detail side =
    if detail == CONTACT_FAULT then One ContactFault
    else if nat_lt detail UP_LIMIT then One (Contact detail)
    else lane_if (nat_lt detail WIRES) (Wire detail) side

-- K12 names a limit
abbrev pub limit_taker : ℕ → Side → Taker
limit_taker detail side =
    if detail == 1 then One (Wire UP_LIMIT)
    else if detail == 2 then One (Wire DOWN_LIMIT)
    else One (Gives side)

-- the clauses, then the reasons of a supervisor, then those of the report
unfoldable pub taker_of : ℕ → ℕ → Side → Taker
taker_of code detail side =
    if code == 1 then lane_if (nat_lt 0 detail && nat_le detail SOURCES) (Source detail) side
    else if code == 2 then wire_taker detail side
    else if code == 3 then One (Source 5)
    else if code == 4 then One (Source 5)
    else if code == 5 then One PitLatch
    else if code == 6 then One DoorsFaulty
    else if code == 7 then lane_if (nat_lt detail CONTACTS) (Contact detail) side
    else if code == 8 then One Monitor
    else if code == 9 then Stations
    else if code == 10 then One (Source 5)
    else if code == 11 then One (Wire REQUEST)
    else if code == 12 then limit_taker detail side
    else if code == COMPARE then One (Sees side)
    else if code == LOCKED then One (Sees side)
    else if code == STALE then One (Faults side)
    else if code == FORCED then One (Faults side)
    else if code == KINDS_DIFFER then BothGive
    else One (Gives side)

abbrev pub key_if : Bool → Lane → List Lane
key_if there key = if there then key ∷ [] else []

-- the stations that stand at INSPECTION
abbrev pub stations_of : ImageData → List Lane
stations_of image =
    key_if (source_has image ROOF INSPECTION) (Source 1)
    ++ key_if (source_has image PIT INSPECTION) (Source 2)
    ++ key_if (source_has image CAR INSPECTION) (Source 3)
    ++ key_if (source_has image PLATFORM INSPECTION) (Source 6)

-- the lanes themselves, with the image of the tick that took the power
unfoldable pub takers_of : Taker → ImageData → List Lane
takers_of (One key) image = key ∷ []
takers_of BothGive image = Gives A ∷ Gives B ∷ []
takers_of Stations image = stations_of image
