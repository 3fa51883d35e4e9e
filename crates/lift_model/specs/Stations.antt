-- What the stations, the panel and the bypass switches ask for, over one image.
use Rattle.std.specs.Prelude.{ℕ, Bool, true, false, not, ◌&&◌, ◌||◌, if◌then◌else◌, Option, Some, None}
use Rattle.lift_model.specs.Enums.{Kind, Up, Down, Mode, Normal, Inspection, Emergency}
use Rattle.lift_model.specs.Chain.{source_has}
use Rattle.lift_model.specs.Records.{ImageData}
use Rattle.lift_base.specs.declared.sources.TheConstants.{ROOF, PIT, CAR, PANEL, PLATFORM}
use Rattle.lift_base.specs.declared.station_bits.TheConstants.{INSPECTION, RUN, UP, DOWN}
use Rattle.lift_base.specs.declared.panel_bits.TheConstants.{EMERGENCY, EMERGENCY_UP, EMERGENCY_DOWN, BYPASS_CAR, BYPASS_LANDING}

-- the station is switched to INSPECTION; RUN, UP and DOWN are its buttons (5.12.1.5)
abbrev pub inspects : ImageData → ℕ → Bool
inspects image station = source_has image station INSPECTION

-- the one of the two buttons that is made, where the other is not
abbrev pub one_direction : Bool → Bool → Option Kind
one_direction true false = Some Up
one_direction false true = Some Down
one_direction up down = None

-- the station does not inspect, or it shows RUN and this direction alone (5.12.1.5)
abbrev pub agrees : ImageData → Option Kind → ℕ → Bool
agrees image (Some Up) station =
    not (inspects image station) || (source_has image station RUN && source_has image station UP && not (source_has image station DOWN))
agrees image (Some Down) station =
    not (inspects image station) || (source_has image station RUN && source_has image station DOWN && not (source_has image station UP))
agrees image other station = false

-- each station does so
abbrev pub all_agree : ImageData → Option Kind → Bool
all_agree image k = agrees image k ROOF && agrees image k PIT && agrees image k CAR && agrees image k PLATFORM

-- some station inspects
abbrev pub is_inspected : ImageData → Bool
is_inspected image = inspects image ROOF || inspects image PIT || inspects image CAR || inspects image PLATFORM

-- the direction that each inspecting station shows, and there is one (5.12.1.5)
abbrev pub button : ImageData → Option Kind
button image =
    if is_inspected image && all_agree image (Some Up) then Some Up
    else if is_inspected image && all_agree image (Some Down) then Some Down else None

-- the direction of the emergency operation's buttons (5.12.1.6)
abbrev pub emergency_button : ImageData → Option Kind
emergency_button image = one_direction (source_has image PANEL EMERGENCY_UP) (source_has image PANEL EMERGENCY_DOWN)

-- inspection goes before emergency operation (5.12.1.5, 5.12.1.6)
abbrev pub mode_of : ImageData → Mode
mode_of image = if is_inspected image then Inspection else if source_has image PANEL EMERGENCY then Emergency else Normal

-- the mode is Normal
abbrev pub is_normal : Mode → Bool
is_normal Normal = true
is_normal mode = false

-- the mode is Inspection
abbrev pub is_inspection : Mode → Bool
is_inspection Inspection = true
is_inspection mode = false

-- the mode is Emergency
abbrev pub is_emergency : Mode → Bool
is_emergency Emergency = true
is_emergency mode = false

-- a door bypass is asked for (5.12.1.8)
abbrev pub bypasses : ImageData → Bool
bypasses image = source_has image PANEL BYPASS_CAR || source_has image PANEL BYPASS_LANDING
