-- The rows of the contact table are the contacts of the chain.
use Rattle.std.proofs.Common.{◌≡◌, ℕ, ◌<◌, Bool, true, false, List, Some, map, slice_get, refl, sym, ap, ◌∙◌, arith}
use Rattle.std.specs.Prelude.{option_map}
use Rattle.std.specs.List.{range_with_len}
use Rattle.std.proofs.lemmas.Option.{slice_get-map, get_or_from_slice_get}
use Rattle.std.proofs.lemmas.List.FromFn.{get_or-map-range_with_len}
use Rattle.lift_base.specs.declared.TheConstants.{CONTACTS}
use Rattle.lift_model.specs.Enums.{Mode, Normal, Inspection, Emergency}
use Rattle.lift_model.specs.Records.{ImageData}
use Rattle.lift_model.specs.Chain.{is_contact_made, inoperative}
use Rattle.lift_model.specs.Bits.{has}
use Rattle.channel_walker.specs.Table.{is_made, is_past}
use Rattle.channel_walker.specs.declared.contacts.Operation.{Operation}
use Rattle.channel_walker.specs.declared.contacts.Contact.{Contact}
use Rattle.channel_walker.specs.declared.contacts.Past.{Past}
use Rattle.channel_walker.specs.declared.contacts.TheConstants.{CHAIN}

past_rows : (mode : Mode) (car landing : Bool)
    → map (λ (row : Contact × Past). is_past row.1 (record { mode = mode; bypass_car = car; bypass_landing = landing })) CHAIN
    ≡ map (has (inoperative mode car landing)) (range_with_len 0 CONTACTS)
past_rows Normal true true = refl
past_rows Normal true false = refl
past_rows Normal false true = refl
past_rows Normal false false = refl
past_rows Inspection true true = refl
past_rows Inspection true false = refl
past_rows Inspection false true = refl
past_rows Inspection false false = refl
past_rows Emergency true true = refl
past_rows Emergency true false = refl
past_rows Emergency false true = refl
past_rows Emergency false false = refl

made_rows : (image : ImageData) (there : List Bool)
    → map (λ (row : Contact × Past). is_made image there row.0) CHAIN ≡ map (is_contact_made image there) (range_with_len 0 CONTACTS)
unfolding is_contact_made
made_rows image there = refl

-- what a list of tests says of a row, the other list says of its number
at_row : (v : Contact × Past → Bool) (f : ℕ → Bool) (i : ℕ) (row : Contact × Past) → i < CONTACTS
    → map v CHAIN ≡ map f (range_with_len 0 CONTACTS) → Some row ≡ slice_get CHAIN i → v row ≡ f i
at_row v f i row h same got =
    let here : slice_get (map f (range_with_len 0 CONTACTS)) i ≡ Some (v row) =
    ap (λ xs. slice_get xs i) (sym same) ∙ (slice_get-map v CHAIN i ∙ ap (option_map v) (sym got)) in
    sym (get_or_from_slice_get (map f (range_with_len 0 CONTACTS)) i (v row) false here)
    ∙ get_or-map-range_with_len f 0 CONTACTS i i false h (omega arith)

-- a row tells of the contact with its number whether it is inoperative
pub row-past : (operation : Operation) (i : ℕ) (row : Contact × Past) → i < CONTACTS → Some row ≡ slice_get CHAIN i
    → is_past row.1 operation ≡ has (inoperative operation.mode operation.bypass_car operation.bypass_landing) i
row-past operation i row h got =
    let past = has (inoperative operation.mode operation.bypass_car operation.bypass_landing) in
    at_row (λ (r : Contact × Past). is_past r.1 operation) past i row h
    (past_rows operation.mode operation.bypass_car operation.bypass_landing) got

-- and whether it is made
pub row-made : (image : ImageData) (there : List Bool) (i : ℕ) (row : Contact × Past) → i < CONTACTS → Some row ≡ slice_get CHAIN i
    → is_made image there row.0 ≡ is_contact_made image there i
row-made image there i row h got =
    at_row (λ (r : Contact × Past). is_made image there r.0) (is_contact_made image there) i row h (made_rows image there) got
