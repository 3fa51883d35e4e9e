-- The settings that a head means are in range.
use Rattle.std.proofs.Common.{◌≡◌, ◌≤◌, ◌==◌, List, [], ◌∷◌, ℕ, ℤ, pos, negsuc, true, false, Bool, if◌then◌else◌, refl, subst, rules, arith, nat_le, Option, Some, None, Ok, Err, IfSome}
use Rattle.std.specs.Str.{is_utf8}
use Rattle.std.proofs.lemmas.Bool.{and_parts}
use Rattle.toml.specs.Data.{Data, Members, as_integer}
use Rattle.toml.specs.Parse.{parse_document}
use Rattle.lift_base.specs.declared.limits.TheConstants.{MOST_TICKS, MOST_TICKS_BEFORE}
use Rattle.lift_config.specs.declared.Key.{Key}
use Rattle.lift_config.specs.declared.Key.TheVariants.{Version, Ticks, Sct, Srvt, Disc, DoorTicks, Roof, Pit, Car, Doors, Panel, Platform}
use Rattle.lift_config.specs.declared.ConfigFault.{ConfigFault}
use Rattle.lift_config.specs.declared.ConfigFault.TheVariants.{Extra}
use Rattle.lift_config.specs.Head.{Read, bind, fitting, required, found, optional, within, fresh, value_at, most_ticks, platform_of, has_extra, config_of, config_if, read_head}
use Rattle.lift_config.specs.Ranges.{IsInRange}
use Rattle.lift_model.specs.Records.{Settings}
use Rattle.script_model.proofs.Choices.{choose}

bind_ok : {A B : Type 0} (f : A → Read B) (r : Read A) (y : B) → bind r f ≡ Ok y → (x : A) × (r ≡ Ok x) × (f x ≡ Ok y)
bind_ok f (Ok x) y e = (x, refl, e)
bind_ok f (Err fault) y e = absurd cc

unless_ok : {A : Type 0} (P : A → Type 0) (t : Bool) (fault : ConfigFault) (x y : A) → P x → (if t then Err fault else Ok x) ≡ Ok y → P y
unless_ok P true fault x y is e = absurd cc
unless_ok P false fault x y is e = let same : x ≡ y = cc in subst P same is

-- ---- a key

fitting_ok : (key : Key) (fits : ℕ → Bool) (o : Option ℤ) (n : ℕ) → fitting key fits o ≡ Ok n → fits n ≡ true
fitting_ok key fits None n e = absurd cc
fitting_ok key fits (Some (negsuc m)) n e = absurd cc
fitting_ok key fits (Some (pos m)) n e = choose (fits m) _ _ _ e
    (λ is e'. let same : m ≡ n = cc in subst (λ (x : ℕ). fits x ≡ true) same is)
    (λ is e'. absurd cc)

required_ok : (key : Key) (fits : ℕ → Bool) (o : Option Data) (n : ℕ) → required key fits o ≡ Ok n → fits n ≡ true
required_ok key fits None n e = absurd cc
required_ok key fits (Some d) n e = fitting_ok key fits (as_integer d) n e

found_ok : (fits : ℕ → Bool) (r : Read ℕ) (id : Option ℕ) → ((n : ℕ) → r ≡ Ok n → fits n ≡ true) → found r ≡ Ok id
    → IfSome id (λ n. fits n ≡ true)
found_ok fits (Ok n) id all e = let same : Some n ≡ id = cc in subst (λ (x : Option ℕ). IfSome x (λ n. fits n ≡ true)) same (all n refl)
found_ok fits (Err fault) id all e = absurd cc

optional_ok : (key : Key) (fits : ℕ → Bool) (o : Option Data) (id : Option ℕ) → optional key fits o ≡ Ok id
    → IfSome id (λ n. fits n ≡ true)
optional_ok key fits None id e = let same : None ≡ id = cc in subst (λ (x : Option ℕ). IfSome x (λ n. fits n ≡ true)) same tt
optional_ok key fits (Some d) id e = found_ok fits (fitting key fits (as_integer d)) id (λ n. fitting_ok key fits (as_integer d) n) e

within_ok : (low high n : ℕ) → within low high n ≡ true → (low ≤ n) × (n ≤ high)
within_ok low high n is =
    let parts = and_parts (nat_le low n) (nat_le n high) is in
    let a : nat_le low n ≡ true = parts.0 in
    let b : nat_le n high ≡ true = parts.1 in
    (search rules, search rules)

number_ok : (key : Key) (low high : ℕ) (o : Option Data) (n : ℕ) → required key (within low high) o ≡ Ok n → (low ≤ n) × (n ≤ high)
number_ok key low high o n e = within_ok low high n (required_ok key (within low high) o n e)

-- the platform has a key from version 2 on
platform_ok : (version : ℕ) (fits : ℕ → Bool) (o : Option Data) (id : Option ℕ) → platform_of version fits o ≡ Ok id
    → IfSome id (λ n. fits n ≡ true)
platform_ok version fits o id e = choose (version == 1) _ _ _ e
    (λ is e'. let same : None ≡ id = cc in subst (λ (x : Option ℕ). IfSome x (λ n. fits n ≡ true)) same tt)
    (λ is e'. optional_ok Platform fits o id e')

ticks_most : (version : ℕ) → most_ticks version ≤ MOST_TICKS
ticks_most version = elim (version == 1) as (λ v. (if v then MOST_TICKS_BEFORE else MOST_TICKS) ≤ MOST_TICKS) [
  | true ↦ omega arith
  | false ↦ omega arith
]

at_most : (a b c : ℕ) → a ≤ b → b ≤ c → a ≤ c
at_most a b c h k = omega arith

-- ---- all keys

config_in_range : (m : Members) (c : Settings) → config_of m ≡ Ok c → IsInRange c
config_in_range m c e =
    let (version, hv, ev) = bind_ok _ (required Version (within 1 2) (value_at Version m)) c e in
    let (ticks, h0, e0) = bind_ok _ (required Ticks (within 1 (most_ticks version)) (value_at Ticks m)) c ev in
    let (sct, h1, e1) = bind_ok _ (required Sct (within 1 1000) (value_at Sct m)) c e0 in
    let (srvt, h2, e2) = bind_ok _ (required Srvt (within 1 sct) (value_at Srvt m)) c e1 in
    let (disc, h3, e3) = bind_ok _ (required Disc (within 1 1000) (value_at Disc m)) c e2 in
    let (door, h4, e4) = bind_ok _ (required DoorTicks (within 1 1000) (value_at DoorTicks m)) c e3 in
    let (roof, h5, e5) = bind_ok _ (required Roof (fresh []) (value_at Roof m)) c e4 in
    let (pit, h6, e6) = bind_ok _ (required Pit (fresh (Some roof ∷ [])) (value_at Pit m)) c e5 in
    let (car, h7, e7) = bind_ok _ (optional Car (fresh (Some roof ∷ Some pit ∷ [])) (value_at Car m)) c e6 in
    let (doors, h8, e8) = bind_ok _ (required Doors (fresh (Some roof ∷ Some pit ∷ car ∷ [])) (value_at Doors m)) c e7 in
    let (panel, h9, e9) = bind_ok _ (required Panel (fresh (Some roof ∷ Some pit ∷ car ∷ Some doors ∷ [])) (value_at Panel m)) c e8 in
    let (platform, h10, e10) =
    bind_ok _ (platform_of version (fresh (Some roof ∷ Some pit ∷ car ∷ Some doors ∷ Some panel ∷ [])) (value_at Platform m)) c e9 in
    let i0 = number_ok Ticks 1 (most_ticks version) (value_at Ticks m) ticks h0 in
    let i1 = number_ok Sct 1 1000 (value_at Sct m) sct h1 in
    let i2 = number_ok Srvt 1 sct (value_at Srvt m) srvt h2 in
    let i3 = number_ok Disc 1 1000 (value_at Disc m) disc h3 in
    let i4 = number_ok DoorTicks 1 1000 (value_at DoorTicks m) door h4 in
    let fits : IsInRange (record {
      ticks = ticks;
      sct = sct;
      srvt = srvt;
      disc = disc;
      door = door;
      roof = roof;
      pit = pit;
      car = car;
      doors = doors;
      panel = panel;
      platform = platform;
    }) = record {
      some_tick = i0.0;
      ticks = at_most ticks (most_ticks version) MOST_TICKS i0.1 (ticks_most version);
      sct = i1.1;
      some_srvt = i2.0;
      srvt = i2.1;
      some_disc = i3.0;
      disc = i3.1;
      some_door = i4.0;
      door = i4.1;
      roof = required_ok Roof (fresh []) (value_at Roof m) roof h5;
      pit = required_ok Pit (fresh (Some roof ∷ [])) (value_at Pit m) pit h6;
      car = optional_ok Car (fresh (Some roof ∷ Some pit ∷ [])) (value_at Car m) car h7;
      doors = required_ok Doors (fresh (Some roof ∷ Some pit ∷ car ∷ [])) (value_at Doors m) doors h8;
      panel = required_ok Panel (fresh (Some roof ∷ Some pit ∷ car ∷ Some doors ∷ [])) (value_at Panel m) panel h9;
      platform = platform_ok version (fresh (Some roof ∷ Some pit ∷ car ∷ Some doors ∷ Some panel ∷ [])) (value_at Platform m) platform
          h10;
    } in
    unless_ok IsInRange (has_extra car platform m) Extra _ c fits e10

table_in_range : (o : Option Members) (c : Settings) → config_if o ≡ Ok c → IsInRange c
table_in_range None c e = absurd cc
table_in_range (Some m) c e = config_in_range m c e

pub head_in_range : (head : List ℕ) (c : Settings) → read_head head ≡ Ok c → IsInRange c
unfolding read_head
head_in_range head c e = choose (is_utf8 head) _ _ _ e (λ is e'. table_in_range (parse_document head) c e') (λ is e'. absurd cc)
