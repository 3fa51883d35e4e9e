-- What each clause says.
use Rattle.std.specs.Prelude.{ℕ, List, map, not, ◌&&◌, if◌then◌else◌, is_none, Option, None}
use Rattle.lift_model.specs.Enums.{Mode}
use Rattle.lift_model.specs.Bits.{or_else}
use Rattle.lift_model.specs.Chain.{source_has, inoperative, first_open}
use Rattle.lift_model.specs.Grant.{Facts, fault_if, limit_detail, first_fault}
use Rattle.lift_base.specs.declared.contacts.TheConstants.{CONTACT_FAULT}
use Rattle.lift_base.specs.declared.sources.TheConstants.{DOORS, PANEL}
use Rattle.lift_base.specs.declared.door_bits.TheConstants.{MONITOR}
use Rattle.lift_base.specs.declared.panel_bits.TheConstants.{BYPASS_CAR, BYPASS_LANDING}
use Rattle.lift_base.specs.declared.wires.TheConstants.{REQUEST}
use Rattle.lift_model.specs.Stations.{button, emergency_button, bypasses, is_normal, is_inspection, is_emergency}
use Rattle.lift_model.specs.Wires.{is_made, first_discrepant}
use Rattle.channel_walker.specs.declared.clauses.TheConstants.{ORDER}
use Rattle.channel_walker.specs.declared.clauses.Clause.{Clause}
use Rattle.channel_walker.specs.declared.clauses.Clause.TheVariants.{Values, Wires, OneBypass, NoBypass, PitReset, Doors, Chain, Monitor}
use Rattle.channel_walker.specs.declared.clauses.Clause.TheVariants.{Buttons, EmergencyButtons, Request, Limits}

-- the detail at which a clause fails over these facts in this mode
unfoldable pub detail_of : Facts → Mode → Clause → Option ℕ
detail_of f mode Values = f.missing
detail_of f mode Wires = or_else (first_discrepant f.image.words) (fault_if f.contact_fault CONTACT_FAULT)
detail_of f mode OneBypass = fault_if (source_has f.image PANEL BYPASS_CAR && source_has f.image PANEL BYPASS_LANDING) 0
detail_of f mode NoBypass = fault_if (is_normal mode && bypasses f.image) (if source_has f.image PANEL BYPASS_CAR then 1 else 2)
detail_of f mode PitReset = fault_if (is_normal mode && f.pit_latched) 0
detail_of f mode Doors = fault_if (is_normal mode && f.doors_faulty) 0
detail_of f mode Chain =
    first_open f.image f.there (inoperative mode (source_has f.image PANEL BYPASS_CAR) (source_has f.image PANEL BYPASS_LANDING))
detail_of f mode Monitor = fault_if (source_has f.image PANEL BYPASS_CAR && not (source_has f.image DOORS MONITOR)) 0
detail_of f mode Buttons = fault_if (is_inspection mode && is_none (button f.image)) 0
detail_of f mode EmergencyButtons = fault_if (is_emergency mode && is_none (emergency_button f.image)) 0
detail_of f mode Request = fault_if (is_normal mode && not (is_made f.image.words REQUEST)) 0
detail_of f mode Limits = if is_inspection mode then limit_detail f.image (button f.image) else None

-- the clauses in the order in which they are asked
unfoldable pub order : List Clause
order = ORDER

-- the first of these clauses that fails, with its number, where the list begins with this number
unfoldable pub first_failing : Facts → Mode → ℕ → List Clause → Option (ℕ × ℕ)
first_failing f mode k clauses = first_fault k (map (detail_of f mode) clauses)
