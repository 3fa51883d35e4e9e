-- The TOML reader reads a head as it was written.
use Rattle.std.proofs.Common.{◌≡◌, ◌<◌, ◌≤◌, ◌++◌, ◌&&◌, List, [], ◌∷◌, ℕ, suc, length, refl, sym, ap, ◌∙◌, arith, true, false, Bool, rules, nat_le, nat_lt, codes, decimal, map, pos, Option, Some, None, Ok, option_map}
use Rattle.std.specs.List.{flat_map}
use Rattle.std.specs.Str.{IsUtf8, IsAscii}
use Rattle.std.proofs.lemmas.Grind.{flat_map-append}
use Rattle.std.proofs.lemmas.Str.{IsUtf8-append, IsUtf8-nil, IsUtf8-from_ascii, is_utf8-from_IsUtf8}
use Rattle.std.proofs.lemmas.Str.Ascii.{IsAscii-nil, IsAscii-cons}
use Rattle.std.proofs.lemmas.Bool.{and_parts}
use Rattle.std.proofs.lemmas.Fmt.{IsAscii-decimal}
use Rattle.toml_writer.specs.Text.{key_text as bare_text}
use Rattle.toml.specs.Data.{integer, Members, member, no_members}
use Rattle.toml.specs.Tables.{Expression, key_value, no_nodes, close, define, at_key, along_dots, along_header}
use Rattle.toml.specs.Text.{IsLinesText, IsLineText}
use Rattle.toml.specs.Parse.{lines, parse_document, skip_bom}
use Rattle.toml.proofs.ReadLines.{run, AllPrinted, read_lines}
use Rattle.lift_base.specs.declared.limits.TheConstants.{MOST_TICKS, LONGEST_SPAN}
use Rattle.lift_config.specs.declared.Key.{Key}
use Rattle.lift_config.specs.declared.Key.TheVariants.{Version, Ticks, Sct, Srvt, Disc, DoorTicks, Roof, Pit, Car, Doors, Panel, Platform}
use Rattle.lift_config.specs.Head.{within, key_name, config_of, read_head}
use Rattle.lift_config.specs.Ranges.{IsInRange}
use Rattle.lift_model.specs.Records.{Settings}
use Rattle.script_model.specs.Text.{key_text, first_keys, car_key, last_keys, platform_key, head_text}
use Rattle.script_laws.proofs.Keys.{AreSmall, small_first, small_car, small_last, small_platform}

-- a key that stands bare
bare : (k : Key) → bare_text (key_name k) ≡ key_name k
unfolding bare_text
bare Version = refl
bare Ticks = refl
bare Sct = refl
bare Srvt = refl
bare Disc = refl
bare DoorTicks = refl
bare Roof = refl
bare Pit = refl
bare Car = refl
bare Doors = refl
bare Panel = refl
bare Platform = refl

-- a key and its number, as the TOML reader sees them
abbrev line_of : Key × ℕ → Expression
line_of key = (([], key_name key.0), key_value (integer (pos key.1)))

one_line : (started : Bool) (k : Key) (v : ℕ) → v ≤ MOST_TICKS
    → IsLineText false started ([], key_name k) (key_value (integer (pos v))) (key_text (k, v))
one_line started k v small = (decimal v, rw (bare k) refl, (refl, search rules))

all_lines : (started : Bool) (keys : List (Key × ℕ)) → AreSmall keys → IsLinesText false started (map line_of keys) (flat_map key_text keys)
all_lines started [] small = refl
all_lines started ((k, v) ∷ keys) small = (
  key_text (k, v),
  flat_map key_text keys,
  refl,
  one_line started k v small.0,
  all_lines true keys small.1,
)

all_printed : (keys : List (Key × ℕ)) → AllPrinted (map line_of keys)
all_printed [] = tt
all_printed (key ∷ keys) = ((refl, omega arith, refl), all_printed keys)

-- the lines make the table that they run to
keys_read : (keys : List (Key × ℕ)) → AreSmall keys
    → lines (suc (length (flat_map key_text keys))) (no_nodes, []) (flat_map key_text keys) ≡ run (no_nodes, []) (map line_of keys)
keys_read keys small =
    read_lines false false (map line_of keys) (flat_map key_text keys) (flat_map key_text keys) (no_nodes, []) _
    (all_lines false keys small) (all_printed keys) refl (omega arith)

-- the table of a head
abbrev with_car : Option ℕ → Members → Members
with_car None ms = ms
with_car (Some id) ms = member (codes "car") (integer (pos id)) ms

abbrev with_platform : Option ℕ → Members → Members
with_platform None ms = ms
with_platform (Some id) ms = member (codes "platform") (integer (pos id)) ms

abbrev table_of : Settings → Members
table_of c = with_car c.car (member (codes "disc") (integer (pos c.disc)) (member (codes "door_ticks") (integer (pos c.door))
    (member (codes "doors") (integer (pos c.doors))
    (member (codes "panel") (integer (pos c.panel)) (member (codes "pit") (integer (pos c.pit))
    (with_platform c.platform (member (codes "roof") (integer (pos c.roof)) (member (codes "sct") (integer (pos c.sct))
    (member (codes "srvt") (integer (pos c.srvt))
    (member (codes "ticks") (integer (pos c.ticks)) (member (codes "version") (integer (pos 2)) no_members)))))))))))

abbrev keys_with : Settings → Option ℕ → Option ℕ → List (Key × ℕ)
keys_with c car platform = first_keys c ++ (car_key car ++ (last_keys c ++ platform_key platform))

table_runs : (c : Settings) (car platform : Option ℕ)
    → option_map (λ doc. close doc.0) (run (no_nodes, []) (map line_of (keys_with c car platform)))
    ≡ Some (table_of (record c { car = car; platform = platform }))
unfolding define at_key along_dots along_header
table_runs c None None = refl
table_runs c (Some id) None = refl
table_runs c None (Some id) = refl
table_runs c (Some car) (Some id) = refl

small_append : (a b : List (Key × ℕ)) → AreSmall a → AreSmall b → AreSmall (a ++ b)
small_append [] b first second = second
small_append (x ∷ a) b first second = (first.0, small_append a b first.1 second)

head_is_keys : (c : Settings) → head_text c ≡ flat_map key_text (keys_with c c.car c.platform)
unfolding head_text
head_is_keys c =
    let last = last_keys c ++ platform_key c.platform in
    sym (flat_map-append key_text (first_keys c) (car_key c.car ++ last)
    ∙ ap (λ r. flat_map key_text (first_keys c) ++ r) (flat_map-append key_text (car_key c.car) last
    ∙ ap (λ r. flat_map key_text (car_key c.car) ++ r) (flat_map-append key_text (last_keys c) (platform_key c.platform))))

head_parses : (c : Settings) → IsInRange c → parse_document (head_text c) ≡ Some (table_of c)
unfolding parse_document skip_bom
head_parses c fits =
    let last = last_keys c ++ platform_key c.platform in
    let small = small_append (first_keys c) (car_key c.car ++ last) (small_first c fits)
    (small_append (car_key c.car) last (small_car c fits)
    (small_append (last_keys c) (platform_key c.platform) (small_last c fits) (small_platform c fits))) in
    rw (head_is_keys c)
    (ap (option_map (λ doc. close doc.0)) (keys_read (keys_with c c.car c.platform) small) ∙ table_runs c c.car c.platform)

within_is : (low high n : ℕ) → low ≤ n → n ≤ high → within low high n ≡ true
within_is low high n least most =
    let a : nat_le low n ≡ true = search rules in
    let b : nat_le n high ≡ true = search rules in
    rw (a, b) refl

-- the numbers of a head are in their ranges
record Numbers (c : Settings) : Type 0 where
  ticks : within 1 MOST_TICKS c.ticks ≡ true
  sct : within 1 LONGEST_SPAN c.sct ≡ true
  srvt : within 1 c.sct c.srvt ≡ true
  disc : within 1 LONGEST_SPAN c.disc ≡ true
  door : within 1 LONGEST_SPAN c.door ≡ true

numbers : (c : Settings) → IsInRange c → Numbers c
numbers c fits = record {
  ticks = within_is 1 MOST_TICKS c.ticks fits.some_tick fits.ticks;
  sct = within_is 1 LONGEST_SPAN c.sct (omega (arith, fits.some_srvt, fits.srvt)) fits.sct;
  srvt = within_is 1 c.sct c.srvt fits.some_srvt fits.srvt;
  disc = within_is 1 LONGEST_SPAN c.disc fits.some_disc fits.disc;
  door = within_is 1 LONGEST_SPAN c.door fits.some_door fits.door;
}

-- the table means the settings
settings_read : (c : Settings) (car platform : Option ℕ) → IsInRange (record c { car = car; platform = platform })
    → config_of (table_of (record c { car = car; platform = platform })) ≡ Ok (record c { car = car; platform = platform })
settings_read c None None fits =
    let n = numbers _ fits in rw (n.ticks, n.sct, n.srvt, n.disc, n.door, fits.roof, fits.pit, fits.doors, fits.panel) refl
settings_read c (Some id) None fits =
    let n = numbers _ fits in
    rw (n.ticks, n.sct, n.srvt, n.disc, n.door, fits.roof, fits.pit, fits.car, fits.doors, fits.panel) refl
settings_read c None (Some id) fits =
    let n = numbers _ fits in
    rw (n.ticks, n.sct, n.srvt, n.disc, n.door, fits.roof, fits.pit, fits.doors, fits.panel, fits.platform) refl
settings_read c (Some car) (Some id) fits =
    let n = numbers _ fits in
    rw (n.ticks, n.sct, n.srvt, n.disc, n.door, fits.roof, fits.pit, fits.car, fits.doors, fits.panel, fits.platform) refl

abbrev are_ascii : List ℕ → Bool
are_ascii [] = true
are_ascii (b ∷ bs) = nat_lt b 128 && are_ascii bs

ascii_is : (bs : List ℕ) → are_ascii bs ≡ true → IsAscii bs
ascii_is [] is = IsAscii-nil
ascii_is (b ∷ bs) is =
    let parts = and_parts (nat_lt b 128) (are_ascii bs) is in
    let small : b < 128 = let h : nat_lt b 128 ≡ true = parts.0 in search rules in
    IsAscii-cons b bs small (ascii_is bs parts.1)

literal : (bs : List ℕ) → are_ascii bs ≡ true → IsUtf8 bs
literal bs is = IsUtf8-from_ascii bs (ascii_is bs is)

-- the text of a head is text
name_utf8 : (k : Key) → IsUtf8 (key_name k)
name_utf8 Version = literal (codes "version") refl
name_utf8 Ticks = literal (codes "ticks") refl
name_utf8 Sct = literal (codes "sct") refl
name_utf8 Srvt = literal (codes "srvt") refl
name_utf8 Disc = literal (codes "disc") refl
name_utf8 DoorTicks = literal (codes "door_ticks") refl
name_utf8 Roof = literal (codes "roof") refl
name_utf8 Pit = literal (codes "pit") refl
name_utf8 Car = literal (codes "car") refl
name_utf8 Doors = literal (codes "doors") refl
name_utf8 Panel = literal (codes "panel") refl
name_utf8 Platform = literal (codes "platform") refl

key_utf8 : (k : Key) (v : ℕ) → v ≤ MOST_TICKS → IsUtf8 (key_text (k, v))
key_utf8 k v small =
    let digits : IsUtf8 (decimal v) = IsUtf8-from_ascii (decimal v) (IsAscii-decimal v (omega arith)) in
    let number = IsUtf8-append (decimal v) (codes "\n") digits (literal (codes "\n") refl) in
    let value = IsUtf8-append (codes " = ") (decimal v ++ codes "\n") (literal (codes " = ") refl) number in
    IsUtf8-append (key_name k) (codes " = " ++ (decimal v ++ codes "\n")) (name_utf8 k) value

keys_utf8 : (keys : List (Key × ℕ)) → AreSmall keys → IsUtf8 (flat_map key_text keys)
keys_utf8 [] small = IsUtf8-nil
keys_utf8 ((k, v) ∷ keys) small = IsUtf8-append (key_text (k, v)) (flat_map key_text keys) (key_utf8 k v small.0) (keys_utf8 keys small.1)

head_utf8 : (c : Settings) → IsInRange c → IsUtf8 (head_text c)
unfolding head_text
head_utf8 c fits =
    IsUtf8-append (flat_map key_text (first_keys c)) _ (keys_utf8 (first_keys c) (small_first c fits))
    (IsUtf8-append (flat_map key_text (car_key c.car)) _ (keys_utf8 (car_key c.car) (small_car c fits))
    (IsUtf8-append (flat_map key_text (last_keys c)) _ (keys_utf8 (last_keys c) (small_last c fits))
    (keys_utf8 (platform_key c.platform) (small_platform c fits))))

-- a head is read as it was written
pub head_back : (c : Settings) → IsInRange c → read_head (head_text c) ≡ Ok c
unfolding read_head
head_back c fits = rw (is_utf8-from_IsUtf8 _ (head_utf8 c fits), head_parses c fits) (settings_read c c.car c.platform fits)
