-- The set of made contacts, contact by contact.
use Rattle.lift_base.specs.declared.TheConstants.{CONTACTS}
use Rattle.lift_base.specs.declared.sources.TheConstants.{ROOF, PIT, CAR, DOORS, PLATFORM}
use Rattle.lift_base.specs.declared.station_bits.TheConstants.{STOP, SAFETY_GEAR}
use Rattle.lift_base.specs.declared.door_bits.TheConstants.{CAR_DOOR, LANDING_DOORS, LANDING_LOCKS}
use Rattle.std.proofs.Common.{◌≡◌, ℕ, ◌<◌, Bool, List, refl, arith, cond}
use Rattle.std.specs.Prelude.{◌&&◌, ◌||◌, not}
use Rattle.lift_model.specs.Records.{ImageData}
use Rattle.lift_model.specs.Bits.{has}
use Rattle.lift_model.specs.Chain.{shows, Bit, is_contact_made}
use Rattle.channel_masks.proofs.WordLemmas.{below_fifteen}

-- the set with these contacts too, where they are made
abbrev pub and_put : ℕ → Bool → (ℕ → Bool) → ℕ → Bool
and_put contacts made set i = cond (has contacts i) (set i || made) (set i)

-- those on wires, and then the eight that are bits of sources
abbrev pub all_put : ImageData → List Bool → (ℕ → Bool) → ℕ → Bool
all_put image there wires =
    let bit : ℕ → ℕ → Bool = λ source bit. shows image there (Bit source bit) in
    and_put 0x4000 (bit PLATFORM STOP) (and_put 0x2000 (bit DOORS LANDING_LOCKS) (and_put 0x1000 (bit DOORS LANDING_DOORS)
    (and_put 0x0800 (bit DOORS CAR_DOOR) (and_put 0x0400 (bit ROOF SAFETY_GEAR) (and_put 0x0200 (bit CAR STOP)
    (and_put 0x0100 (bit ROOF STOP) (and_put 0x0080 (bit PIT STOP) wires)))))))

pub all_put-is : (image : ImageData) (there : List Bool) (wires : ℕ → Bool)
    → ((i : ℕ) → i < CONTACTS → wires i ≡ (has 0x007F i && (has image.words.a i && not (has image.words.b i))))
    → (i : ℕ) → i < CONTACTS → all_put image there wires i ≡ is_contact_made image there i
unfolding is_contact_made
all_put-is image there wires w =
    below_fifteen (λ i. all_put image there wires i ≡ is_contact_made image there i)
    (rw (w 0 (omega arith)) refl)
    (rw (w 1 (omega arith)) refl)
    (rw (w 2 (omega arith)) refl)
    (rw (w 3 (omega arith)) refl)
    (rw (w 4 (omega arith)) refl)
    (rw (w 5 (omega arith)) refl)
    (rw (w 6 (omega arith)) refl)
    (rw (w 7 (omega arith)) refl)
    (rw (w 8 (omega arith)) refl)
    (rw (w 9 (omega arith)) refl)
    (rw (w 10 (omega arith)) refl)
    (rw (w 11 (omega arith)) refl)
    (rw (w 12 (omega arith)) refl)
    (rw (w 13 (omega arith)) refl)
    (rw (w 14 (omega arith)) refl)
