-- The clauses, one by one: which fail where the mode asks them, and what they fail at.
use Rattle.std.proofs.Common.{◌≡◌, ℕ, ◌<◌, Bool, true, false, List, [], ◌∷◌, get_or, Option, Some, None, cond, refl, ◌∙◌}
use Rattle.std.specs.Prelude.{◌&&◌, ◌||◌, not, is_some, is_none, unwrap_or}
use Rattle.lift_base.specs.declared.contacts.TheConstants.{CONTACT_FAULT}
use Rattle.lift_base.specs.declared.sources.TheConstants.{DOORS, PANEL}
use Rattle.lift_base.specs.declared.door_bits.TheConstants.{MONITOR}
use Rattle.lift_base.specs.declared.panel_bits.TheConstants.{BYPASS_CAR, BYPASS_LANDING}
use Rattle.lift_base.specs.declared.wires.TheConstants.{REQUEST}
use Rattle.lift_model.specs.Bits.{or_else}
use Rattle.lift_model.specs.Chain.{source_has}
use Rattle.lift_model.specs.Stations.{button, emergency_button, mode_of, bypasses, is_normal, is_inspection, is_emergency}
use Rattle.lift_model.specs.Wires.{is_made, first_discrepant}
use Rattle.lift_model.specs.Grant.{Facts, fault_if, limit_detail, clauses}
use Rattle.channel_masks.specs.Asked.{asked}
use Rattle.channel_masks.specs.Gap.{gap_of}
use Rattle.channel_masks.proofs.WordLemmas.{and_true, and_turned, below_twelve}

-- of clause 1 to clause 12, whether it fails in a mode that asks it
abbrev pub tests : Facts → List Bool
tests f =
    let image = f.image in
    is_some f.missing
    ∷ (is_some (first_discrepant image.words) || f.contact_fault)
    ∷ (source_has image PANEL BYPASS_CAR && source_has image PANEL BYPASS_LANDING)
    ∷ bypasses image
    ∷ f.pit_latched
    ∷ f.doors_faulty
    ∷ is_some (gap_of f (mode_of image))
    ∷ (source_has image PANEL BYPASS_CAR && not (source_has image DOORS MONITOR))
    ∷ is_none (button image)
    ∷ is_none (emergency_button image)
    ∷ not (is_made image.words REQUEST)
    ∷ is_some (limit_detail image (button image))
    ∷ []

fault-is : (b : Bool) (d : ℕ) → b ≡ is_some (fault_if b d)
fault-is true d = refl
fault-is false d = refl

asked_anyway : (b : Bool) (d : ℕ) → (b && true) ≡ is_some (fault_if b d)
asked_anyway b d = and_true b ∙ fault-is b d

asked_if : (mode b : Bool) (d : ℕ) → (b && mode) ≡ is_some (fault_if (mode && b) d)
asked_if mode b d = and_turned b mode ∙ fault-is (mode && b) d

asked_wire : (wire : Option ℕ) (b : Bool) → ((is_some wire || b) && true) ≡ is_some (or_else wire (fault_if b CONTACT_FAULT))
asked_wire None b = asked_anyway b CONTACT_FAULT
asked_wire (Some i) b = refl

asked_limit : (mode : Bool) (limit : Option ℕ) → (is_some limit && mode) ≡ is_some (cond mode limit None)
asked_limit true limit = and_true (is_some limit)
asked_limit false limit = and_turned (is_some limit) false

-- a clause fails where the mode asks it and its test holds
pub each_clause : (f : Facts) (i : ℕ) → i < 12
    → (get_or (tests f) i false && get_or (asked (mode_of f.image)) i false) ≡ is_some (get_or (clauses f) i None)
each_clause f =
    let image = f.image in let mode = mode_of image in
    below_twelve (λ i. (get_or (tests f) i false && get_or (asked mode) i false) ≡ is_some (get_or (clauses f) i None))
    (and_true (is_some f.missing))
    (asked_wire (first_discrepant image.words) f.contact_fault)
    (asked_anyway (source_has image PANEL BYPASS_CAR && source_has image PANEL BYPASS_LANDING) 0)
    (asked_if (is_normal mode) (bypasses image) _)
    (asked_if (is_normal mode) f.pit_latched 0)
    (asked_if (is_normal mode) f.doors_faulty 0)
    (and_true (is_some (gap_of f mode)))
    (asked_anyway (source_has image PANEL BYPASS_CAR && not (source_has image DOORS MONITOR)) 0)
    (asked_if (is_inspection mode) (is_none (button image)) 0)
    (asked_if (is_emergency mode) (is_none (emergency_button image)) 0)
    (asked_if (is_normal mode) (not (is_made image.words REQUEST)) 0)
    (asked_limit (is_inspection mode) (limit_detail image (button image)))

fault_at : (b : Bool) (d : ℕ) → is_some (fault_if b d) ≡ true → fault_if b d ≡ Some d
fault_at true d h = refl
fault_at false d h = absurd (cc)

pub limit_at : (mode : Bool) (limit : Option ℕ) → is_some (cond mode limit None) ≡ true → cond mode limit None ≡ Some (unwrap_or limit 0)
limit_at true (Some d) h = refl
limit_at true None h = absurd (cc)
limit_at false limit h = absurd (cc)

pub some_at : (o : Option ℕ) → is_some o ≡ true → o ≡ Some (unwrap_or o 0)
some_at (Some d) h = refl
some_at None h = absurd (cc)

pub wire_at : (wire : Option ℕ) (b : Bool) → is_some (or_else wire (fault_if b CONTACT_FAULT)) ≡ true
    → or_else wire (fault_if b CONTACT_FAULT) ≡ Some (unwrap_or wire CONTACT_FAULT)
wire_at (Some i) b h = refl
wire_at None b h = fault_at b CONTACT_FAULT h

-- what each clause fails at
abbrev pub details : Facts → List ℕ
details f =
    let image = f.image in
    unwrap_or f.missing 0
    ∷ unwrap_or (first_discrepant image.words) CONTACT_FAULT
    ∷ 0
    ∷ cond (source_has image PANEL BYPASS_CAR) 1 2
    ∷ 0
    ∷ 0
    ∷ unwrap_or (gap_of f (mode_of image)) 0
    ∷ 0
    ∷ 0
    ∷ 0
    ∷ 0
    ∷ unwrap_or (limit_detail image (button image)) 0
    ∷ []

pub each_detail : (f : Facts) (i : ℕ) → i < 12 → is_some (get_or (clauses f) i None) ≡ true
    → get_or (clauses f) i None ≡ Some (get_or (details f) i 0)
each_detail f =
    let image = f.image in let mode = mode_of image in
    below_twelve (λ i. is_some (get_or (clauses f) i None) ≡ true → get_or (clauses f) i None ≡ Some (get_or (details f) i 0))
    (some_at f.missing)
    (wire_at (first_discrepant image.words) f.contact_fault)
    (fault_at (source_has image PANEL BYPASS_CAR && source_has image PANEL BYPASS_LANDING) 0)
    (fault_at (is_normal mode && bypasses image) _)
    (fault_at (is_normal mode && f.pit_latched) 0)
    (fault_at (is_normal mode && f.doors_faulty) 0)
    (some_at (gap_of f mode))
    (fault_at (source_has image PANEL BYPASS_CAR && not (source_has image DOORS MONITOR)) 0)
    (fault_at (is_inspection mode && is_none (button image)) 0)
    (fault_at (is_emergency mode && is_none (emergency_button image)) 0)
    (fault_at (is_normal mode && not (is_made image.words REQUEST)) 0)
    (limit_at (is_inspection mode) (limit_detail image (button image)))
