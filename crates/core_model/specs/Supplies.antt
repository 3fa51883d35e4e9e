-- The levelling gate: what is let through above the settled power. All own.
use Rattle.std.specs.Prelude.{ℕ, ◌+◌, ◌-◌, Bool, false, not, ◌&&◌, ◌==◌, if◌then◌else◌, List, [], ◌∷◌, take}
use Rattle.lift_base.specs.declared.supplies.Supply.{Supply}
use Rattle.lift_base.specs.declared.supplies.Supply.TheVariants as supply
use Rattle.lift_model.specs.Enums.{Kind, Off, Full, Up, Down}
use Rattle.lift_model.specs.Levelling.{has_moved, may_level}
use Rattle.lift_model.specs.Records.{Settings, InputData}
use Rattle.core_model.specs.Settling.{Settled}
use Rattle.core_model.specs.Words.{is_off}

-- what the gate gives at a tick: the supply, whether the alarm sounds, and whether an unintended movement stands
pub record GivenData : Type 0 where
  pub supply : Supply
  pub alarm : Bool
  pub moved : Bool

-- a number for each supply
abbrev pub supply_code : Supply → ℕ
supply_code supply.Off = 0
supply_code supply.Full = 1
supply_code supply.Up = 2
supply_code supply.Down = 3
supply_code supply.Level = 4

-- there is no supply
abbrev pub is_none : Supply → Bool
is_none s = supply_code s == 0

-- the supplies are the same
abbrev pub is_same_supply : Supply → Supply → Bool
is_same_supply s t = supply_code s == supply_code t

-- the power of a kind, let through as it is
abbrev pub supply_of : Kind → Supply
supply_of Off = supply.Off
supply_of Full = supply.Full
supply_of Up = supply.Up
supply_of Down = supply.Down

-- both contactors are open
abbrev pub are_both_off : Settled → Bool
are_both_off s = is_off s.a.kind && is_off s.b.kind

-- over what a tick settled: nothing after an unintended movement, else power that is on, else levelling where both contactors are open
abbrev pub supply_at : Settled → Bool → Bool → Supply
supply_at s level moved =
    if moved then supply.Off
    else if not (is_off s.power) then supply_of s.power
    else if are_both_off s && level then supply.Level else supply.Off

-- the same with the alarm, which sounds only with a supply
abbrev pub gated : Settled → Bool → Bool → GivenData
gated s level moved =
    let given = supply_at s level moved in record { supply = given; alarm = not (is_none given) && s.alarm; moved = moved }

-- what is given at tick t, which settled this: the guard's answers are those of the tick before
abbrev pub given_at : Settings → List InputData → ℕ → Settled → GivenData
given_at config trace t s = gated s (may_level config (take (t - 1) trace)) (has_moved config (take (t - 1) trace))

-- what is given from tick t on
abbrev pub supplies_from : Settings → List InputData → ℕ → List Settled → List GivenData
supplies_from config trace t [] = []
supplies_from config trace t (s ∷ path) = given_at config trace t s ∷ supplies_from config trace (t + 1) path

-- what is given at each tick of a path, that of tick 1 first
unfoldable pub supplies_of : Settings → List InputData → List Settled → List GivenData
supplies_of config trace path = supplies_from config trace 1 path

-- what a list ends with
abbrev pub nothing_given : GivenData
nothing_given = record { supply = supply.Off; alarm = false; moved = false }
