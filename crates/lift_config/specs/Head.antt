-- What the table of a head means: a config, or its first fault.
use Rattle.std.specs.Prelude.{ℕ, suc, ◌+◌, nat_lt, ◌%◌, ℤ, pos, negsuc, Bool, false, not, ◌&&◌, ◌||◌, ◌==◌, nat_le, if◌then◌else◌, List, [], ◌∷◌, codes, Option, Some, None, Result, Ok, Err}
use Rattle.std.specs.Str.{is_utf8}
use Rattle.std.specs.Result.{result_err}
use Rattle.toml.specs.Data.{Data, Members, no_members, member, get_member, as_integer}
use Rattle.toml.specs.Parse.{parse_document}
use Rattle.lift_model.specs.Records.{Settings}
use Rattle.lift_config.specs.declared.Key.{Key}
use Rattle.lift_config.specs.declared.Key.TheVariants.{Version, Ticks, Sct, Srvt, Disc, DoorTicks, Roof, Pit, Car, Doors, Panel, Platform}
use Rattle.lift_config.specs.declared.ConfigFault.{ConfigFault}
use Rattle.lift_config.specs.declared.ConfigFault.TheVariants.{NotToml, Missing, BadValue, Extra}
use Rattle.lift_base.specs.declared.limits.TheConstants.{MOST_TICKS, MOST_TICKS_BEFORE, LONGEST_SPAN}

-- a part of the settings, or the first fault
abbrev pub Read : Type 0 → Type 0
Read A = Result A ConfigFault

-- the key as it stands in a head
abbrev pub key_name : Key → List ℕ
key_name Version = codes "version"
key_name Ticks = codes "ticks"
key_name Sct = codes "sct"
key_name Srvt = codes "srvt"
key_name Disc = codes "disc"
key_name DoorTicks = codes "door_ticks"
key_name Roof = codes "roof"
key_name Pit = codes "pit"
key_name Car = codes "car"
key_name Doors = codes "doors"
key_name Panel = codes "panel"
key_name Platform = codes "platform"

-- what stands in the table at a key
abbrev pub value_at : Key → Members → Option Data
value_at key m = get_member (key_name key) m

-- the next step, where there was no fault before
abbrev pub bind : {A B : Type 0} → Read A → (A → Read B) → Read B
bind (Ok a) f = f a
bind (Err e) f = Err e

-- the integer where it is a number that fits
abbrev pub fitting : Key → (ℕ → Bool) → Option ℤ → Read ℕ
fitting key fits None = Err (BadValue key)
fitting key fits (Some (negsuc n)) = Err (BadValue key)
fitting key fits (Some (pos n)) = if fits n then Ok n else Err (BadValue key)

-- the integer at a key that must stand there
abbrev pub required : Key → (ℕ → Bool) → Option Data → Read ℕ
required key fits None = Err (Missing key)
required key fits (Some d) = fitting key fits (as_integer d)

abbrev pub found : Read ℕ → Read (Option ℕ)
found (Ok n) = Ok (Some n)
found (Err e) = Err e

-- the integer at a key that may be missing
abbrev pub optional : Key → (ℕ → Bool) → Option Data → Read (Option ℕ)
optional key fits None = Ok None
optional key fits (Some d) = found (fitting key fits (as_integer d))

abbrev pub within : ℕ → ℕ → ℕ → Bool
within low high n = nat_le low n && nat_le n high

abbrev pub is_it : ℕ → Option ℕ → Bool
is_it n None = false
is_it n (Some m) = n == m

abbrev pub is_among : ℕ → List (Option ℕ) → Bool
is_among n [] = false
is_among n (m ∷ ms) = is_it n m || is_among n ms

-- an odd number from 257 to 383, which none of these is
abbrev pub fresh : List (Option ℕ) → ℕ → Bool
fresh earlier n = within 257 383 n && n % 2 == 1 && not (is_among n earlier)

-- how many keys a table has
abbrev pub count : Members → ℕ
count no_members = 0
count (member k d ms) = suc (count ms)

-- a key that may be missing, where it stands there
abbrev pub one_if : Option ℕ → ℕ
one_if None = 0
one_if (Some id) = 1

-- a key more than the ten that must stand there, and those of the car and the platform where they do
abbrev pub has_extra : Option ℕ → Option ℕ → Members → Bool
has_extra car platform m = nat_lt (10 + one_if car + one_if platform) (count m)

-- the most ticks of a head of this version
abbrev pub most_ticks : ℕ → ℕ
most_ticks version = if version == 1 then MOST_TICKS_BEFORE else MOST_TICKS

-- the platform is a key from version 2 on
abbrev pub platform_of : ℕ → (ℕ → Bool) → Option Data → Read (Option ℕ)
platform_of version fits d = if version == 1 then Ok None else optional Platform fits d

-- the settings that a table means, or its first fault: each key in its order with what its value must be, then a further key
abbrev pub config_of : Members → Read Settings
config_of m =
    bind (required Version (within 1 2) (value_at Version m)) (λ version.
    bind (required Ticks (within 1 (most_ticks version)) (value_at Ticks m)) (λ ticks.
    bind (required Sct (within 1 LONGEST_SPAN) (value_at Sct m)) (λ sct.
    bind (required Srvt (within 1 sct) (value_at Srvt m)) (λ srvt.
    bind (required Disc (within 1 LONGEST_SPAN) (value_at Disc m)) (λ disc.
    bind (required DoorTicks (within 1 LONGEST_SPAN) (value_at DoorTicks m)) (λ door.
    bind (required Roof (fresh []) (value_at Roof m)) (λ roof.
    bind (required Pit (fresh (Some roof ∷ [])) (value_at Pit m)) (λ pit.
    bind (optional Car (fresh (Some roof ∷ Some pit ∷ [])) (value_at Car m)) (λ car.
    bind (required Doors (fresh (Some roof ∷ Some pit ∷ car ∷ [])) (value_at Doors m)) (λ doors.
    bind (required Panel (fresh (Some roof ∷ Some pit ∷ car ∷ Some doors ∷ [])) (value_at Panel m)) (λ panel.
    bind (platform_of version (fresh (Some roof ∷ Some pit ∷ car ∷ Some doors ∷ Some panel ∷ [])) (value_at Platform m)) (λ platform.
    if has_extra car platform m then Err Extra else Ok (record {
      ticks = ticks;
      sct = sct;
      srvt = srvt;
      disc = disc;
      door = door;
      roof = roof;
      pit = pit;
      car = car;
      doors = doors;
      panel = panel;
      platform = platform;
    })))))))))))))

abbrev pub config_if : Option Members → Read Settings
config_if None = Err NotToml
config_if (Some m) = config_of m

-- what the text of a head means
unfoldable pub read_head : List ℕ → Read Settings
read_head head = if is_utf8 head then config_if (parse_document head) else Err NotToml

-- the first fault of the text of a head
abbrev pub head_fault : List ℕ → Option ConfigFault
head_fault head = result_err (read_head head)
