-- Where levelling is permitted, the car is in the zone, and each contact but those of the doors is made.
use Rattle.std.proofs.Common.{◌≡◌, ℕ, zero, suc, ◌+◌, ◌-◌, ◌<◌, ◌≤◌, List, [], ◌∷◌, get_or, Option, Some, None, Bool, true, false, refl, sym, ap, ◌∙◌, subst, arith, inl, inr, rules, take}
use Rattle.std.specs.Prelude.{◌||◌, ◌&&◌, not, ◌⊎◌, ◌==◌, if◌then◌else◌}
use Rattle.std.proofs.lemmas.Bool.{and_parts, or_cases, cases_lt, not-true, not-false, eqb-true, true≢false}
use Rattle.lift_base.specs.Ruling.{Ruling}
use Rattle.lift_base.specs.declared.TheConstants.{CONTACTS}
use Rattle.lift_base.specs.declared.sources.TheConstants.{PANEL}
use Rattle.lift_base.specs.declared.panel_bits.TheConstants.{BYPASS_CAR, BYPASS_LANDING}
use Rattle.lift_base.specs.declared.contacts.TheConstants.{CHAIN_CLAUSE, CAR_DOOR_CONTACT, LANDING_DOORS_CONTACT, LANDING_LOCKS_CONTACT, PLATFORM_STOP_CONTACT}
use Rattle.lift_base.specs.declared.supplies.Supply.TheVariants as supply
use Rattle.lift_model.specs.Bits.{has, first_below}
use Rattle.lift_model.specs.Chain.{source_has, inoperative, is_open, first_open, is_contact_made}
use Rattle.lift_model.specs.Enums.{Kind, Off, Full, Up, Down, Mode, Normal, Inspection, Emergency}
use Rattle.lift_model.specs.Grant.{Facts, facts_of, clauses, first_fault, verdict_from, verdict_of, verdict_at_end}
use Rattle.lift_model.specs.Levelling.{waits_for_doors, is_good_to_level, is_in_zone, has_moved, may_level}
use Rattle.lift_model.specs.Records.{Settings, InputData, ImageData}
use Rattle.lift_model.specs.Stations.{mode_of, is_normal}
use Rattle.lift_model.specs.Trace.{configured, image_at_end}
use Rattle.lift_model.proofs.BitLemmas.{First, first_below-gives, has_zero}
use Rattle.core_model.specs.Settling.{Settled}
use Rattle.core_model.specs.Supplies.{supply_at, supply_of, given_at}
use Rattle.core_model.specs.Words.{is_off}
use Rattle.level_guard.specs.Permitted.{IsPermitted}

-- the first clause that fails stands at its number
fault_at : (k : ℕ) (cs : List (Option ℕ)) (fault : ℕ × ℕ) → first_fault k cs ≡ Some fault
    → (k ≤ fault.0) × (get_or cs (fault.0 - k) None ≡ Some fault.1)
fault_at k [] fault e = absurd (cc)
fault_at k (Some x ∷ rest) fault e =
    let same : (k, x) ≡ fault = cc in
    let at : k ≡ fault.0 = ap (λ (p : ℕ × ℕ). p.0) same in
    let here : fault.0 - k ≡ 0 = omega arith in
    (omega arith, rw here (ap Some (ap (λ (p : ℕ × ℕ). p.1) same)))
fault_at k (None ∷ rest) fault e =
    let later = fault_at (k + 1) rest fault e in
    let at : fault.0 - k ≡ suc (fault.0 - (k + 1)) = omega (arith, later.0) in
    (omega (arith, later.0), rw at later.1)

normal_is : (mode : Mode) → is_normal mode ≡ true → mode ≡ Normal
normal_is Normal e = refl
normal_is Inspection e = absurd (cc)
normal_is Emergency e = absurd (cc)

-- a verdict of the chain in normal operation names the first open contact
chain_open : (f : Facts) (d : ℕ) → (verdict_of f).clause ≡ CHAIN_CLAUSE → is_normal (verdict_of f).mode ≡ true → (verdict_of f).detail ≡ d
    → first_open f.image f.there 0 ≡ Some d
unfolding verdict_of
chain_open f d clause normal detail = go (first_fault 1 (clauses f)) refl clause normal detail where
  go : (o : Option (ℕ × ℕ)) → first_fault 1 (clauses f) ≡ o → (verdict_from f.image o).clause ≡ CHAIN_CLAUSE
      → is_normal (verdict_from f.image o).mode ≡ true → (verdict_from f.image o).detail ≡ d → first_open f.image f.there 0 ≡ Some d
  go None e c n h = absurd (cc)
  go (Some fault) e c n h =
      let mode : mode_of f.image ≡ Normal = normal_is (mode_of f.image) n in
      let there = (fault_at 1 (clauses f) fault e).1 in
      let at : fault.0 - 1 ≡ 6 = omega arith in
      let found : first_open f.image f.there (inoperative (mode_of f.image) (source_has f.image PANEL BYPASS_CAR)
      (source_has f.image PANEL BYPASS_LANDING)) ≡ Some fault.1 = rw at at there in
      (rw mode at found) ∙ ap Some h

-- a contact before the first open one is made, where none is looked past
made_before : (image : ImageData) (there : List Bool) (d i : ℕ) → first_open image there 0 ≡ Some d → i < d
    → is_contact_made image there i ≡ true
made_before image there d i e l =
    let found = first_below-gives CONTACTS (is_open image there 0) d e in
    let shut : (not (has 0 i) && not (is_contact_made image there i)) ≡ false = found.earlier i l in
    not-false (is_contact_made image there i) (rw (has_zero i) at shut)

-- the contact is one of the doors, and those of the doors come after the others but for the platform's stop
door_contact : (d : ℕ) → (d == CAR_DOOR_CONTACT || d == LANDING_DOORS_CONTACT || d == LANDING_LOCKS_CONTACT) ≡ true → CAR_DOOR_CONTACT ≤ d
door_contact d h = elim (or_cases (d == CAR_DOOR_CONTACT || d == LANDING_DOORS_CONTACT) (d == LANDING_LOCKS_CONTACT) h) [
  | inl e ↦ (elim (or_cases (d == CAR_DOOR_CONTACT) (d == LANDING_DOORS_CONTACT) e) [
    | inl f ↦ (let same : d ≡ CAR_DOOR_CONTACT = eqb-true d CAR_DOOR_CONTACT f in omega (arith, same))
    | inr f ↦ (let same : d ≡ LANDING_DOORS_CONTACT = eqb-true d LANDING_DOORS_CONTACT f in omega (arith, same))
  ])
  | inr e ↦ (let same : d ≡ LANDING_LOCKS_CONTACT = eqb-true d LANDING_LOCKS_CONTACT e in omega (arith, same))
]

other_contact : (i : ℕ) → i < CONTACTS → ¬ (i ≡ CAR_DOOR_CONTACT) → ¬ (i ≡ LANDING_DOORS_CONTACT) → ¬ (i ≡ LANDING_LOCKS_CONTACT)
    → (i < CAR_DOOR_CONTACT) ⊎ (i ≡ PLATFORM_STOP_CONTACT)
other_contact i l a b c = elim (cases_lt i CAR_DOOR_CONTACT) [
  | inl e ↦ inl e
  | inr e ↦ inr (omega (arith, a, b, c))
]

pub permits : (config : Settings) (inputs : List InputData) → may_level config inputs ≡ true → IsPermitted config inputs
unfolding may_level verdict_at_end
permits config [] h = absurd (true≢false (sym h))
permits config (x ∷ xs) h =
    let inputs = x ∷ xs in
    let f = facts_of config inputs in
    let image = image_at_end config inputs in
    let all = and_parts (is_good_to_level image (configured config) (verdict_of f)) (not (has_moved config inputs)) h in
    let asked = and_parts _ _ all.0 in
    let stop = and_parts _ _ asked.0 in
    let zone = and_parts (waits_for_doors (verdict_of f)) (is_in_zone image) stop.0 in
    let door = and_parts _ _ zone.0 in
    let chain = and_parts ((verdict_of f).clause == CHAIN_CLAUSE) (is_normal (verdict_of f).mode) door.0 in
    let first : first_open image (configured config) 0 ≡ Some (verdict_of f).detail =
    chain_open f (verdict_of f).detail (eqb-true _ _ chain.0) chain.1 refl in
    let doors : CAR_DOOR_CONTACT ≤ (verdict_of f).detail = door_contact (verdict_of f).detail door.1 in
    record {
      zone = zone.1;
      contacts = λ i l a b c. elim (other_contact i l a b c) [
        | inl e ↦ made_before image (configured config) (verdict_of f).detail i first (omega (arith, e, doors))
        | inr e ↦ subst (λ (n : ℕ). is_contact_made image (configured config) n ≡ true) (sym e) stop.1
      ];
      still = not-true (has_moved config inputs) all.1;
    }

-- the supply is levelling only where the guard permits it
pub level-asked : (s : Settled) (level moved : Bool) → supply_at s level moved ≡ supply.Level → level ≡ true
level-asked s level true e = absurd (cc)
level-asked s level false e = go s.power level e where
  go : (k : Kind) (level : Bool) → supply_at (record s { power = k }) level false ≡ supply.Level → level ≡ true
  go Full level e = absurd (cc)
  go Up level e = absurd (cc)
  go Down level e = absurd (cc)
  go Off true e = refl
  go Off false e = go_off (is_off s.a.kind && is_off s.b.kind) e where
    go_off : (b : Bool) → (if b && false then supply.Level else supply.Off) ≡ supply.Level → false ≡ true
    go_off true e = absurd (cc)
    go_off false e = absurd (cc)

-- ---- what is given

module _ (config : Settings) (trace : List InputData) (t : ℕ) (s : Settled) where
  pub level_given : (given_at config trace t s).supply ≡ supply.Level → IsPermitted config (take (t - 1) trace)
  level_given e =
      let before = take (t - 1) trace in permits config before (level-asked s (may_level config before) (has_moved config before) e)

  pub moved_given : has_moved config (take (t - 1) trace) ≡ true → (given_at config trace t s).supply ≡ supply.Off
  moved_given e = rw e refl

  pub power_given : (k : Kind) → is_off k ≡ false → (given_at config trace t s).supply ≡ supply_of k → s.power ≡ k
  power_given k on e = search rules
