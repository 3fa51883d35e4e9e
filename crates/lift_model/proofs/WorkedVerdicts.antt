-- Verdicts over images, computed by hand. A full chain has roof 30, pit 10, car 10, doors 0F and the wires 01FF; the request adds 0800.
use Rattle.std.proofs.Common.{◌≡◌, ℕ, Bool, true, false, [], ◌∷◌, Option, None, Some, refl}
use Rattle.lift_base.specs.Ruling.{Ruling}
use Rattle.lift_base.specs.declared.Kind.{Kind}
use Rattle.lift_base.specs.declared.Kind.TheVariants.{Off, Full, Up, Down}
use Rattle.lift_base.specs.declared.Mode.{Mode}
use Rattle.lift_base.specs.declared.Mode.TheVariants.{Normal, Inspection, Emergency}
use Rattle.lift_model.specs.Bits.{first_below}
use Rattle.lift_model.specs.Chain.{is_contact_made}
use Rattle.lift_model.specs.Grant.{Facts, verdict_of}

-- roof, pit, car, doors, panel, and no platform; the two wire words; nothing is missing, latched or faulty
abbrev seen : ℕ → ℕ → ℕ → ℕ → ℕ → ℕ → ℕ → Facts
seen roof pit car doors panel a b = record {
  there = true ∷ true ∷ true ∷ true ∷ true ∷ false ∷ [];
  missing = None;
  image = record { values = Some roof ∷ Some pit ∷ Some car ∷ Some doors ∷ Some panel ∷ None ∷ []; words = record { a = a; b = b } };
  contact_fault = false;
  pit_latched = false;
  doors_faulty = false;
}

-- the full chain with these values of roof, pit, car and platform, the limits not reached and no request
abbrev four : ℕ → ℕ → ℕ → Option ℕ → Facts
four roof pit car platform = record (seen roof pit car 0x0F 0x00 0x01FF 0x0E00) {
  there = true ∷ true ∷ true ∷ true ∷ true ∷ true ∷ [];
  image = record {
    values = Some roof ∷ Some pit ∷ Some car ∷ Some 0x0F ∷ Some 0x00 ∷ platform ∷ [];
    words = record { a = 0x01FF; b = 0x0E00 };
  };
}

abbrev says : Kind → ℕ → ℕ → Mode → Bool → Ruling
says kind clause detail mode bypass = record { kind = kind; clause = clause; detail = detail; mode = mode; bypass = bypass }

abbrev at_rest : Facts
at_rest = seen 0x30 0x10 0x10 0x0F 0x00 0x09FF 0x0600

-- ---- granted

-- all is made, and the drive requests motion
normal_grants_full : verdict_of at_rest ≡ says Full 0 0 Normal false
unfolding verdict_of is_contact_made first_below
normal_grants_full = refl

-- no source in the car: neither its stop nor its station counts
no_car_grants_full :
    verdict_of (record (seen 0x30 0x10 0x00 0x0F 0x00 0x09FF 0x0600) { there = true ∷ true ∷ false ∷ true ∷ true ∷ false ∷ [] })
    ≡ says Full 0 0 Normal false
unfolding verdict_of is_contact_made first_below
no_car_grants_full = refl

-- the platform alone at INSPECTION, with RUN and UP; its stop is made
platform_grants_up : verdict_of (four 0x30 0x10 0x10 (Some 0x17)) ≡ says Up 0 0 Inspection false
unfolding verdict_of is_contact_made first_below
platform_grants_up = refl

-- all four stations at INSPECTION, each with RUN and DOWN
four_stations_grant_down : verdict_of (four 0x3B 0x1B 0x1B (Some 0x1B)) ≡ says Down 0 0 Inspection false
unfolding verdict_of is_contact_made first_below
four_stations_grant_down = refl

-- the same, but the platform shows UP
platform_disagrees : verdict_of (four 0x3B 0x1B 0x1B (Some 0x17)) ≡ says Off 9 0 Inspection false
unfolding verdict_of is_contact_made first_below
platform_disagrees = refl

-- the platform's stop is active: its bit 4 is 0, at NORMAL and while the roof inspects
platform_is_stopped : verdict_of (four 0x37 0x10 0x10 (Some 0x00)) ≡ says Off 7 14 Inspection false
unfolding verdict_of is_contact_made first_below
platform_is_stopped = refl

-- a platform that is there and has no value has no stop that is made
dead_platform_is_open : verdict_of (four 0x37 0x10 0x10 None) ≡ says Off 7 14 Inspection false
unfolding verdict_of is_contact_made first_below
dead_platform_is_open = refl

-- the roof at INSPECTION with RUN and UP; no request is needed
inspection_grants_up : verdict_of (seen 0x37 0x10 0x10 0x0F 0x00 0x01FF 0x0E00) ≡ says Up 0 0 Inspection false
unfolding verdict_of is_contact_made first_below
inspection_grants_up = refl

-- the roof at INSPECTION with RUN and DOWN
inspection_grants_down : verdict_of (seen 0x3B 0x10 0x10 0x0F 0x00 0x01FF 0x0E00) ≡ says Down 0 0 Inspection false
unfolding verdict_of is_contact_made first_below
inspection_grants_down = refl

-- roof and car at INSPECTION, both with RUN and UP
two_stations_grant_up : verdict_of (seen 0x37 0x10 0x17 0x0F 0x00 0x01FF 0x0E00) ≡ says Up 0 0 Inspection false
unfolding verdict_of is_contact_made first_below
two_stations_grant_up = refl

-- the emergency switch and its DOWN change nothing where a station inspects
inspection_goes_before_emergency : verdict_of (seen 0x37 0x10 0x10 0x0F 0x05 0x01FF 0x0E00) ≡ says Up 0 0 Inspection false
unfolding verdict_of is_contact_made first_below
inspection_goes_before_emergency = refl

-- governor and final limit are open: wires 1 and 2 off
emergency_grants_up : verdict_of (seen 0x30 0x10 0x10 0x0F 0x03 0x01F9 0x0E06) ≡ says Up 0 0 Emergency false
unfolding verdict_of is_contact_made first_below
emergency_grants_up = refl

-- the pit latch does not count in Emergency
emergency_grants_down : verdict_of (record (seen 0x30 0x10 0x10 0x0F 0x05 0x01FF 0x0E00) { pit_latched = true })
    ≡ says Down 0 0 Emergency false
unfolding verdict_of is_contact_made first_below
emergency_grants_down = refl

-- the car door is open and bypassed, and the monitor is made
bypass_grants_up : verdict_of (seen 0x37 0x10 0x10 0x0E 0x08 0x01FF 0x0E00) ≡ says Up 0 0 Inspection true
unfolding verdict_of is_contact_made first_below
bypass_grants_up = refl

-- landing doors and locks are open and bypassed
landing_bypass_grants_up : verdict_of (seen 0x37 0x10 0x10 0x09 0x10 0x01FF 0x0E00) ≡ says Up 0 0 Inspection true
unfolding verdict_of is_contact_made first_below
landing_bypass_grants_up = refl

-- ---- each clause that fails

-- K1: the third source has no value; what else fails comes later
missing_source : verdict_of (record (seen 0x30 0x10 0x10 0x0F 0x00 0x01FF 0x0600) { missing = Some 3 }) ≡ says Off 1 3 Normal false
unfolding verdict_of is_contact_made first_below
missing_source = refl

-- K2: wires 3 and 10 are 0 in both words
discrepant_wire : verdict_of (seen 0x30 0x10 0x10 0x0F 0x00 0x09F7 0x0200) ≡ says Off 2 3 Normal false
unfolding verdict_of is_contact_made first_below
discrepant_wire = refl

-- K2: no wire is discrepant now, but a contact fault stands
contact_fault : verdict_of (record at_rest { contact_fault = true }) ≡ says Off 2 16 Normal false
unfolding verdict_of is_contact_made first_below
contact_fault = refl

-- K3: bits 3 and 4 of the panel
both_bypasses : verdict_of (seen 0x37 0x10 0x10 0x0F 0x18 0x01FF 0x0E00) ≡ says Off 3 0 Inspection true
unfolding verdict_of is_contact_made first_below
both_bypasses = refl

-- K4: a bypass without inspection or emergency operation
car_bypass_in_normal : verdict_of (seen 0x30 0x10 0x10 0x0F 0x08 0x09FF 0x0600) ≡ says Off 4 1 Normal true
unfolding verdict_of is_contact_made first_below
car_bypass_in_normal = refl

-- K4
landing_bypass_in_normal : verdict_of (seen 0x30 0x10 0x10 0x0F 0x10 0x09FF 0x0600) ≡ says Off 4 2 Normal true
unfolding verdict_of is_contact_made first_below
landing_bypass_in_normal = refl

-- K5
pit_is_latched : verdict_of (record at_rest { pit_latched = true }) ≡ says Off 5 0 Normal false
unfolding verdict_of is_contact_made first_below
pit_is_latched = refl

-- K6: and the request is not looked at
doors_are_faulty : verdict_of (record (seen 0x30 0x10 0x10 0x0F 0x00 0x01FF 0x0E00) { doors_faulty = true }) ≡ says Off 6 0 Normal false
unfolding verdict_of is_contact_made first_below
doors_are_faulty = refl

-- K7: wire 1 is off, and so is the later pit door
open_governor : verdict_of (seen 0x30 0x10 0x10 0x0F 0x00 0x09BD 0x0642) ≡ says Off 7 1 Normal false
unfolding verdict_of is_contact_made first_below
open_governor = refl

-- K7: bit 2 of doors is contact 13
open_landing_locks : verdict_of (seen 0x30 0x10 0x10 0x0B 0x00 0x09FF 0x0600) ≡ says Off 7 13 Normal false
unfolding verdict_of is_contact_made first_below
open_landing_locks = refl

-- K7: bit 4 of the car is contact 9
open_car_stop : verdict_of (seen 0x30 0x10 0x00 0x0F 0x00 0x09FF 0x0600) ≡ says Off 7 9 Normal false
unfolding verdict_of is_contact_made first_below
open_car_stop = refl

-- K7: emergency operation looks past six contacts, and not past the pit stop, contact 7
pit_stop_in_emergency : verdict_of (seen 0x10 0x00 0x10 0x0F 0x03 0x01C1 0x0E3E) ≡ says Off 7 7 Emergency false
unfolding verdict_of is_contact_made first_below
pit_stop_in_emergency = refl

-- K7: the car door is bypassed, and the landing doors, contact 12, are open
landing_doors_beside_a_bypassed_car_door : verdict_of (seen 0x37 0x10 0x10 0x0C 0x08 0x01FF 0x0E00) ≡ says Off 7 12 Inspection true
unfolding verdict_of is_contact_made first_below
landing_doors_beside_a_bypassed_car_door = refl

-- K8: the car door is bypassed, and bit 3 of doors is not made
monitor_is_off : verdict_of (seen 0x37 0x10 0x10 0x06 0x08 0x01FF 0x0E00) ≡ says Off 8 0 Inspection true
unfolding verdict_of is_contact_made first_below
monitor_is_off = refl

-- K9: the roof shows UP, and the pit inspects without RUN
stations_differ : verdict_of (seen 0x37 0x11 0x10 0x0F 0x00 0x01FF 0x0E00) ≡ says Off 9 0 Inspection false
unfolding verdict_of is_contact_made first_below
stations_differ = refl

-- K9: the roof shows UP and DOWN
both_directions : verdict_of (seen 0x3F 0x10 0x10 0x0F 0x00 0x01FF 0x0E00) ≡ says Off 9 0 Inspection false
unfolding verdict_of is_contact_made first_below
both_directions = refl

-- K10: neither button
no_emergency_button : verdict_of (seen 0x30 0x10 0x10 0x0F 0x01 0x01FF 0x0E00) ≡ says Off 10 0 Emergency false
unfolding verdict_of is_contact_made first_below
no_emergency_button = refl

-- K10
both_emergency_buttons : verdict_of (seen 0x30 0x10 0x10 0x0F 0x07 0x01FF 0x0E00) ≡ says Off 10 0 Emergency false
unfolding verdict_of is_contact_made first_below
both_emergency_buttons = refl

-- K11: wire 11 is off
no_request : verdict_of (seen 0x30 0x10 0x10 0x0F 0x00 0x01FF 0x0E00) ≡ says Off 11 0 Normal false
unfolding verdict_of is_contact_made first_below
no_request = refl

-- K12: UP with wire 7 off
upper_limit : verdict_of (seen 0x37 0x10 0x10 0x0F 0x00 0x017F 0x0E80) ≡ says Off 12 1 Inspection false
unfolding verdict_of is_contact_made first_below
upper_limit = refl

-- K12: DOWN with wire 8 off
lower_limit : verdict_of (seen 0x3B 0x10 0x10 0x0F 0x00 0x00FF 0x0F00) ≡ says Off 12 2 Inspection false
unfolding verdict_of is_contact_made first_below
lower_limit = refl

-- the upper limit does not stop DOWN
upper_limit_going_down : verdict_of (seen 0x3B 0x10 0x10 0x0F 0x00 0x017F 0x0E80) ≡ says Down 0 0 Inspection false
unfolding verdict_of is_contact_made first_below
upper_limit_going_down = refl
