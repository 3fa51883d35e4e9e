-- The verdict of the clauses at a tick, from all inputs up to it. The order of the clauses is own.
use Rattle.std.specs.Prelude.{ℕ, suc, ◌+◌, Bool, not, ◌&&◌, false, if◌then◌else◌, List, [], ◌∷◌, take, length, get_or, Option, Some, None, is_none, option_map, unwrap_or}
use Rattle.lift_base.specs.Ruling.{Ruling, initial}
use Rattle.lift_model.specs.Enums.{Kind, Off, Full, Up, Down}
use Rattle.lift_base.specs.declared.TheConstants.{SOURCES}
use Rattle.lift_model.specs.Bits.{first_below, or_else}
use Rattle.lift_model.specs.Chain.{source_has, inoperative, first_open}
use Rattle.lift_model.specs.Latches.{is_pit_latched, are_doors_faulty}
use Rattle.lift_model.specs.Records.{Settings, InputData, ImageData}
use Rattle.lift_model.specs.Stations.{button, emergency_button, mode_of, bypasses, is_normal, is_inspection, is_emergency}
use Rattle.lift_model.specs.Trace.{words_of, configured, image_at_end}
use Rattle.lift_model.specs.Wires.{is_made, first_discrepant, has_contact_fault}
use Rattle.lift_base.specs.declared.contacts.TheConstants.{CONTACT_FAULT}
use Rattle.lift_base.specs.declared.sources.TheConstants.{DOORS, PANEL}
use Rattle.lift_base.specs.declared.door_bits.TheConstants.{MONITOR}
use Rattle.lift_base.specs.declared.panel_bits.TheConstants.{BYPASS_CAR, BYPASS_LANDING}
use Rattle.lift_base.specs.declared.wires.TheConstants.{UP_LIMIT, DOWN_LIMIT, REQUEST}

-- what the clauses look at: of each source whether it is configured, the number of the first such source without a value, .. (own)
pub record Facts : Type 0 where
  pub there : List Bool
  pub missing : Option ℕ
  pub image : ImageData
  pub contact_fault : Bool
  pub pit_latched : Bool
  pub doors_faulty : Bool

-- the source with index j is configured and has no live value
abbrev pub is_missing : List Bool → ImageData → ℕ → Bool
is_missing there image j = get_or there j false && is_none (get_or image.values j None)

-- the same at the last of these ticks
abbrev pub facts_of : Settings → List InputData → Facts
facts_of config inputs = record {
  there = configured config;
  missing = option_map suc (first_below SOURCES (is_missing (configured config) (image_at_end config inputs)));
  image = image_at_end config inputs;
  contact_fault = has_contact_fault config.disc (words_of inputs) (length inputs);
  pit_latched = is_pit_latched config inputs;
  doors_faulty = are_doors_faulty config inputs;
}

-- a fault with a detail, where the test holds
abbrev pub fault_if : Bool → ℕ → Option ℕ
fault_if holds detail = if holds then Some detail else None

-- the kind that the mode asks for: Full in Normal, else the direction of the buttons (5.12.1.5, 5.12.1.6)
abbrev pub wanted : ImageData → Option Kind
wanted image =
    let mode = mode_of image in
    if is_inspection mode then button image else if is_emergency mode then emergency_button image else Some Full

-- the limit of normal travel in that direction is reached (5.12.1.5)
abbrev pub limit_detail : ImageData → Option Kind → Option ℕ
limit_detail image (Some Up) = fault_if (not (is_made image.words UP_LIMIT)) 1
limit_detail image (Some Down) = fault_if (not (is_made image.words DOWN_LIMIT)) 2
limit_detail image other = None

-- the twelve clauses in their order, each with its detail where it fails (EN 50325-5, 5.11.2, 5.12.1.5, 5.12.1.6, 5.12.1.8, 5.12.1.9)
abbrev pub clauses : Facts → List (Option ℕ)
clauses f =
    let image = f.image in
    let mode = mode_of image in
    f.missing
    ∷ or_else (first_discrepant image.words) (fault_if f.contact_fault CONTACT_FAULT)
    ∷ fault_if (source_has image PANEL BYPASS_CAR && source_has image PANEL BYPASS_LANDING) 0
    ∷ fault_if (is_normal mode && bypasses image) (if source_has image PANEL BYPASS_CAR then 1 else 2)
    ∷ fault_if (is_normal mode && f.pit_latched) 0
    ∷ fault_if (is_normal mode && f.doors_faulty) 0
    ∷ first_open image f.there (inoperative mode (source_has image PANEL BYPASS_CAR) (source_has image PANEL BYPASS_LANDING))
    ∷ fault_if (source_has image PANEL BYPASS_CAR && not (source_has image DOORS MONITOR)) 0
    ∷ fault_if (is_inspection mode && is_none (button image)) 0
    ∷ fault_if (is_emergency mode && is_none (emergency_button image)) 0
    ∷ fault_if (is_normal mode && not (is_made image.words REQUEST)) 0
    ∷ (if is_inspection mode then limit_detail image (button image) else None)
    ∷ []

-- the first clause that fails, with its number, where the list begins with this number
abbrev pub first_fault : ℕ → List (Option ℕ) → Option (ℕ × ℕ)
first_fault k [] = None
first_fault k (Some detail ∷ rest) = Some (k, detail)
first_fault k (None ∷ rest) = first_fault (k + 1) rest

-- Off with that clause; where none fails, the mode's kind with clause 0
abbrev pub verdict_from : ImageData → Option (ℕ × ℕ) → Ruling
verdict_from image None =
    record { kind = unwrap_or (wanted image) Off; clause = 0; detail = 0; mode = mode_of image; bypass = bypasses image }
verdict_from image (Some fault) =
    record { kind = Off; clause = fault.0; detail = fault.1; mode = mode_of image; bypass = bypasses image }

-- the verdict over these facts
unfoldable pub verdict_of : Facts → Ruling
verdict_of f = verdict_from f.image (first_fault 1 (clauses f))

-- the verdict at the last of these ticks; before tick 1 the initial one
unfoldable pub verdict_at_end : Settings → List InputData → Ruling
verdict_at_end config [] = initial
verdict_at_end config (input ∷ inputs) = verdict_of (facts_of config (input ∷ inputs))

-- the verdict at tick s of a trace, from its first s inputs alone
abbrev pub grant : Settings → List InputData → ℕ → Ruling
grant config trace s = verdict_at_end config (take s trace)
