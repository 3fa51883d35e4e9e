-- The form of the data: the tokens of its JSON.
use Rattle.std.specs.Prelude.{ℕ, ◌≡◌, nat_le, nat_lt, Bool, ◌&&◌, ◌||◌, if◌then◌else◌, List, [], ◌∷◌, ◌++◌, codes, decimal, map, string_bytes, Option, Some, None, negsuc}
use Rattle.std.specs.Fmt.{signed_decimal}
use Rattle.std.specs.Borrow.{Bor}
use Rattle.std.specs.List.{flat_map}
use Rattle.std.specs.declared.string.String.{String}
use Rattle.json.specs.Token.{Token, begin_object, end_object, begin_array, end_array, key, string, number, boolean}
use Rattle.rideview.specs.declared.bits.Bits.{Bits}
use Rattle.rideview.specs.declared.lane_data.LaneData.{LaneData}
use Rattle.rideview.specs.declared.lane_data.Shown.{Shown}
use Rattle.rideview.specs.declared.lane_data.Shown.TheVariants.{Values, Words}
use Rattle.rideview.specs.declared.lane_data.Value.{Value}
use Rattle.rideview.specs.declared.loss_data.LossData.{LossData}
use Rattle.rideview.specs.declared.ride.Ride.{Ride}
use Rattle.rideview.specs.declared.writing.Part.{Part}
use Rattle.rideview.specs.declared.writing.Part.TheVariants as part

abbrev pub number_token : ℕ → Token
number_token n = number (decimal n)

-- of a source without a value the number is -1
abbrev pub word_token : Option ℕ → Token
word_token (Some word) = number (decimal word)
word_token None = number (signed_decimal (negsuc 0))

abbrev pub text_token : Bor (List ℕ) → Token
text_token text = string text.now

abbrev pub part_token : Part → Token
part_token part.Open = begin_object
part_token part.Close = end_object
part_token part.OpenList = begin_array
part_token part.CloseList = end_array
part_token (part.Key name) = key name.now
part_token (part.Text text) = string text.now
part_token (part.Number n) = number (decimal n)
part_token (part.Flag holds) = boolean holds

abbrev pub text_of_value : Value → List Token
text_of_value v = elim v.text [
  | None ↦ end_object ∷ []
  | Some text ↦ key (codes "text") ∷ string (string_bytes text) ∷ end_object ∷ []
]

abbrev pub value_tokens : Value → List Token
value_tokens v = begin_object ∷ key (codes "state") ∷ string v.state.now ∷ text_of_value v

abbrev pub as_tokens : Bool → List Token
as_tokens as_power = if as_power then key (codes "as") ∷ string (codes "power") ∷ [] else []

abbrev pub head_tokens : LaneData → List Token
head_tokens lane =
    begin_object ∷ key (codes "name") ∷ string lane.name.now ∷ key (codes "group") ∷ string lane.group.now ∷ as_tokens lane.as_power

abbrev pub bits_tokens : Bits → List Token
bits_tokens bits = key (codes "bits") ∷ begin_array ∷ (map text_token bits.words.now
    ++ end_array ∷ key (codes "elsewhere") ∷ number (decimal bits.elsewhere) ∷ [])

-- the values, or of a source its bits
abbrev pub kind_tokens : Shown → List Token
kind_tokens (Values values places) =
    key (codes "values") ∷ begin_array ∷ (flat_map value_tokens values.items ++ end_array ∷ [])
kind_tokens (Words bits words) = bits_tokens bits

abbrev pub shown_tokens : Shown → List Token
shown_tokens (Values values places) = map number_token places.items
shown_tokens (Words bits words) = map word_token words.items

abbrev pub lane_tokens : LaneData → List Token
lane_tokens lane = head_tokens lane ++ (kind_tokens lane.shown
    ++ key (codes "ticks") ∷ begin_array ∷ (map number_token lane.ticks.items
    ++ end_array ∷ key (codes "bars") ∷ begin_array ∷ (shown_tokens lane.shown
    ++ end_array ∷ end_object ∷ [])))

-- the clauses, by their numbers
abbrev pub is_clause : ℕ → Bool
is_clause code = nat_le 1 code && nat_le code 12

-- somebody asks to run: neither the buttons nor the request are the reason
abbrev pub is_asked : ℕ → Bool
is_asked code = nat_lt code 9 || nat_lt 11 code

abbrev pub loss_head : LossData → List Token
loss_head it =
    begin_object ∷ key (codes "tick") ∷ number (decimal it.loss.tick)
    ∷ key (codes "line") ∷ string (string_bytes it.line)
    ∷ key (codes "cause") ∷ number (decimal it.loss.cause)
    ∷ key (codes "lanes") ∷ begin_array ∷ []

abbrev pub told_tokens : ℕ → List Token
told_tokens code = if is_clause code then string (codes "clause") ∷ [] else []

abbrev pub asked_tokens : ℕ → List Token
asked_tokens code = key (codes "asked") ∷ boolean (is_asked code) ∷ end_object ∷ []

abbrev pub loss_tokens : LossData → List Token
loss_tokens it = loss_head it ++ (map text_token it.names.items
    ++ end_array ∷ key (codes "told") ∷ begin_array ∷ (told_tokens it.loss.reason
    ++ end_array ∷ asked_tokens it.loss.reason))

abbrev pub report_token : {A : Type 0} → String A → Token
report_token line = string (string_bytes line)

abbrev pub front_tokens : List ℕ → Ride → List Token
front_tokens title ride =
    begin_object ∷ key (codes "form") ∷ number (decimal 1) ∷ key (codes "title") ∷ string title
    ∷ key (codes "ticks") ∷ number (decimal ride.ticks)
    ∷ key (codes "lanes") ∷ begin_array ∷ flat_map lane_tokens ride.lanes.items

abbrev pub rest_tokens : {A : Type 0} → Ride → List (String A) → List Token
rest_tokens ride report =
    end_array ∷ key (codes "losses") ∷ begin_array ∷ (flat_map loss_tokens ride.losses.items
    ++ end_array ∷ key (codes "report") ∷ begin_array ∷ (map report_token report ++ end_array ∷ end_object ∷ []))

-- the whole, under a title, with the lines of the report
unfoldable pub ride_tokens : {A : Type 0} → List ℕ → Ride → List (String A) → List Token
ride_tokens title ride report = front_tokens title ride ++ rest_tokens ride report
