-- What each lane shows of a tick.
use Rattle.std.specs.Prelude.{ℕ, ◌-◌, ◌==◌, nat_lt, nat_le, Bool, true, false, not, ◌&&◌, ◌||◌, if◌then◌else◌, List, get_or}
use Rattle.std.specs.Option.{is_none, is_some}
use Rattle.std.specs.declared.option.Option.{Option}
use Rattle.std.specs.declared.option.Option.TheVariants.{None}
use Rattle.lift_base.specs.Ruling.{Ruling}
use Rattle.lift_base.specs.declared.TheConstants.{SOURCES, CONTACTS}
use Rattle.lift_base.specs.declared.contacts.TheConstants.{CAR_DOOR_CONTACT}
use Rattle.lift_base.specs.declared.sources.TheConstants.{ROOF, PIT, CAR, DOORS, PANEL, PLATFORM}
use Rattle.lift_base.specs.declared.door_bits.TheConstants.{MONITOR}
use Rattle.lift_base.specs.declared.panel_bits.TheConstants.{BYPASS_CAR, BYPASS_LANDING}
use Rattle.lift_base.specs.declared.wires.TheConstants.{UP_LIMIT, WIRES}
use Rattle.lift_model.specs.Bits.{has}
use Rattle.lift_model.specs.Chain.{inoperative, is_contact_made, source_has}
use Rattle.lift_model.specs.Enums.{Mode, Override, Keep, Follow, Force}
use Rattle.lift_model.specs.Grant.{is_missing}
use Rattle.lift_model.specs.Records.{ImageData, SideFaultData}
use Rattle.lift_model.specs.Wires.{is_made, is_discrepant}
use Rattle.core_model.specs.Settling.{Out, out_at}
use Rattle.core_model.specs.Words.{is_off, detail_of, matches, publish_word, reason_of, stamp_of}
use Rattle.round_model.specs.Records.{TurnData}
use Rattle.script_model.specs.Report.{is_stale}
use Rattle.ride_lanes.specs.Moments.{lines_at, turn_at}
use Rattle.ride_lanes.specs.declared.cells.Cell.{Cell}
use Rattle.ride_lanes.specs.declared.cells.Cell.TheVariants as cell
use Rattle.ride_lanes.specs.declared.cells.Contact.{Contact}
use Rattle.ride_lanes.specs.declared.cells.Contact.TheVariants as contact
use Rattle.ride_lanes.specs.declared.cells.Given.{Given}
use Rattle.ride_lanes.specs.declared.cells.Given.TheVariants as given
use Rattle.ride_lanes.specs.declared.cells.Ruled.{Ruled}
use Rattle.ride_lanes.specs.declared.cells.Ruled.TheVariants as ruled
use Rattle.ride_lanes.specs.declared.cells.Sees.{Sees}
use Rattle.ride_lanes.specs.declared.cells.Sees.TheVariants as sees
use Rattle.ride_lanes.specs.declared.cells.Standing.{Standing}
use Rattle.ride_lanes.specs.declared.cells.Standing.TheVariants as standing
use Rattle.ride_lanes.specs.declared.cells.Wire.{Wire}
use Rattle.ride_lanes.specs.declared.cells.Wire.TheVariants as wire
use Rattle.ride_lanes.specs.declared.cells.Deeds.{Deeds}
use Rattle.ride_lanes.specs.declared.lanes.Lane.{Lane}
use Rattle.ride_lanes.specs.declared.lanes.Lane.TheVariants as lane
use Rattle.ride_lanes.specs.declared.moments.Moment.{Moment}

-- what a side gives: what is forced, else off for a command that is too old or ahead, else what its command says
abbrev pub given_at : ℕ → Out → Given
given_at t out =
    if out.forced then given.Forced out.kind
    else if nat_lt 0 (stamp_of out.word) && is_stale out.word t then given.Stale (stamp_of out.word)
    else if is_off out.kind then given.Off (reason_of out.word) (detail_of out.word)
    else given.Kind out.kind

-- a side that decides compares what it saw with its own words of this tick and of the one before
abbrev pub seen_at : Moment → TurnData → Bool → Sees
seen_at moment turn exchanged =
    if not turn.acted || turn.failed || exchanged || is_none turn.command then sees.Nothing
    else if matches (stamp_of moment.tick) moment.sight.verdict moment.sight.before turn.seen then sees.Agree
    else sees.Differ turn.seen (publish_word (stamp_of moment.tick) moment.sight.verdict)

abbrev pub ruled_at : Ruling → Ruled
ruled_at verdict = if verdict.clause == 0 then ruled.Granted verdict.kind else ruled.Fails verdict.clause verdict.detail

-- of a source, by its number from 1
abbrev pub value_of : ImageData → ℕ → Option ℕ
value_of image number = if nat_le 1 number && nat_le number SOURCES then get_or image.values (number - 1) None else None

abbrev pub is_past : Mode → ImageData → ℕ → Bool
is_past mode image i = has (inoperative mode (source_has image PANEL BYPASS_CAR) (source_has image PANEL BYPASS_LANDING)) i

-- the source of a contact has no value; the first seven are on wires
abbrev pub lacks_value : List Bool → ImageData → ℕ → Bool
lacks_value there image i =
    if nat_lt i 7 then false
    else if i == 7 then is_missing there image PIT
    else if i == 8 || i == 10 then is_missing there image ROOF
    else if i == 9 then is_missing there image CAR
    else if nat_le 11 i && nat_le i 13 then is_missing there image DOORS
    else is_missing there image PLATFORM

abbrev pub made_or_open : Bool → Bool → Contact
made_or_open made past =
    if made then (if past then contact.PastMade else contact.Made) else if past then contact.PastOpen else contact.Open

abbrev pub contact_at : Mode → List Bool → ImageData → ℕ → Contact
contact_at mode there image i =
    if nat_le CONTACTS i then contact.NoSource
    else if nat_lt i UP_LIMIT && is_discrepant image.words i then contact.Discrepant
    else if lacks_value there image i then contact.NoSource
    else made_or_open (is_contact_made image there i) (is_past mode image i)

-- the signal that shows the car door closed is looked at while the car door's contact is not
abbrev pub monitor_at : Mode → ImageData → Contact
monitor_at mode image =
    if is_none (get_or image.values DOORS None) then contact.NoSource
    else if source_has image DOORS MONITOR then contact.Made
    else if is_past mode image CAR_DOOR_CONTACT then contact.Open
    else contact.NotLookedAt

abbrev pub wire_at : ImageData → ℕ → Wire
wire_at image i =
    if nat_le WIRES i then wire.Off
    else if is_discrepant image.words i then wire.Discrepant
    else if is_made image.words i then wire.Made
    else wire.Off

abbrev pub is_kept : Override → Bool
is_kept Keep = true
is_kept Follow = false
is_kept (Force kind) = false

-- a line of the script other than a hold acts on a side
abbrev pub does_something : SideFaultData → Bool
does_something lines =
    lines.fail || lines.exchange || lines.dismiss || is_some lines.publish || is_some lines.command || not (is_kept lines.contactor)
    || is_some lines.give

abbrev pub deeds_of : SideFaultData → Deeds
deeds_of lines = record {
  fail = lines.fail;
  exchange = lines.exchange;
  dismiss = lines.dismiss;
  publish = lines.publish;
  command = lines.command;
  contactor = lines.contactor;
  give = lines.give;
}

abbrev pub standing_at : TurnData → SideFaultData → Standing
standing_at turn lines =
    if does_something lines then standing.Acts (deeds_of lines)
    else if not turn.acted then standing.Held
    else if turn.failed then standing.Failed
    else standing.Healthy

-- the row of each lane
abbrev pub cell_at : Lane → Moment → Cell
cell_at lane.Power moment = cell.Power moment.settled.power moment.settled.alarm
cell_at (lane.Gives side) moment = cell.Given (given_at moment.tick (out_at side moment.settled))
cell_at (lane.Sees side) moment = cell.Sees (seen_at moment (turn_at side moment) (lines_at side moment).exchange)
cell_at lane.Mode moment = cell.Mode moment.sight.verdict.mode
cell_at lane.Clause moment = cell.Ruled (ruled_at moment.sight.verdict)
cell_at (lane.Source number) moment = cell.Value (value_of moment.sight.facts.image number)
cell_at (lane.Contact i) moment =
    cell.Contact (contact_at moment.sight.verdict.mode moment.sight.facts.there moment.sight.facts.image i)
cell_at lane.Monitor moment = cell.Contact (monitor_at moment.sight.verdict.mode moment.sight.facts.image)
cell_at (lane.Wire i) moment = cell.Wire i (wire_at moment.sight.facts.image i)
cell_at lane.ContactFault moment = cell.Latch moment.sight.facts.contact_fault
cell_at lane.PitLatch moment = cell.Latch moment.sight.facts.pit_latched
cell_at lane.DoorsFaulty moment = cell.Latch moment.sight.facts.doors_faulty
cell_at (lane.Faults side) moment = cell.Standing (standing_at (turn_at side moment) (lines_at side moment))
