-- The report of the supplies of the levelling gate: the report of a path, with the supply in the place of power.
use Rattle.std.specs.Prelude.{ℕ, ◌+◌, not, ◌||◌, Bool, false, if◌then◌else◌, List, [], ◌∷◌, ◌++◌, length, codes, decimal}
use Rattle.std.specs.Bool.{beq}
use Rattle.lift_base.specs.declared.supplies.Supply.{Supply}
use Rattle.lift_base.specs.declared.supplies.Supply.TheVariants as supply
use Rattle.core_model.specs.Settling.{Settled}
use Rattle.core_model.specs.Supplies.{GivenData, is_none, is_same_supply}
use Rattle.script_model.specs.Report.{reason_at, reason_text, alarm_text, counts_text}

abbrev pub supply_name : Supply → List ℕ
supply_name supply.Off = codes "off"
supply_name supply.Full = codes "full"
supply_name supply.Up = codes "up"
supply_name supply.Down = codes "down"
supply_name supply.Level = codes "level"

-- why tick t, which settled this, has no supply: an unintended movement, and else the reason of the report
abbrev pub none_text : ℕ → Settled → GivenData → List ℕ
none_text t s g =
    if g.moved then codes "moved own" else let reason = reason_at t s in reason_text reason.code reason.detail

-- the line of a change at tick t
unfoldable pub supply_line : ℕ → Settled → GivenData → List ℕ
supply_line t s g =
    if is_none g.supply then decimal t ++ codes " off " ++ none_text t s g ++ codes "\n"
    else decimal t ++ codes " " ++ supply_name g.supply ++ alarm_text g.alarm ++ codes "\n"

-- supply and alarm differ from those before
abbrev pub is_supply_change : Supply → Bool → Supply → Bool → Bool
is_supply_change last alarm last' alarm' = not (is_same_supply last' last) || not (beq alarm' alarm)

-- how many changes there are, where supply and alarm were these before
abbrev pub supply_changes : Supply → Bool → List GivenData → ℕ
supply_changes last alarm [] = 0
supply_changes last alarm (g ∷ given) =
    (if is_supply_change last alarm g.supply g.alarm then 1 else 0) + supply_changes g.supply g.alarm given

-- how many ticks have a supply
abbrev pub count_given : List GivenData → ℕ
count_given [] = 0
count_given (g ∷ given) = (if is_none g.supply then 0 else 1) + count_given given

-- the lines from tick t on, where supply and alarm were these before it, as far as both lists go
abbrev pub supply_lines : Supply → Bool → ℕ → List GivenData → List Settled → List ℕ
supply_lines last alarm t [] path = []
supply_lines last alarm t (g ∷ given) [] = []
supply_lines last alarm t (g ∷ given) (s ∷ path) = (if is_supply_change last alarm g.supply g.alarm then supply_line t s g else [])
    ++ supply_lines g.supply g.alarm (t + 1) given path

-- the last line: how many ticks, how many of them with a supply, and how many changes
unfoldable pub supply_totals : List GivenData → List ℕ
supply_totals given = counts_text (length given) (count_given given) (supply_changes supply.Off false given)

-- the whole report; before tick 1 there is no supply and no alarm
unfoldable pub supply_text : List GivenData → List Settled → List ℕ
supply_text given path = supply_lines supply.Off false 1 given path ++ supply_totals given
