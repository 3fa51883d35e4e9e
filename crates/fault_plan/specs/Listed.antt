-- The single faults of one channel, in a fixed order: each tick, each side, each kind of fault. All own.
use Rattle.std.specs.Prelude.{ℕ, zero, suc, ◌+◌, List, [], ◌∷◌, ◌++◌, map}
use Rattle.lift_model.specs.Enums.{Side, A, B, Off, Full, Up, Down}
use Rattle.fault_plan.specs.declared.single.SingleFault.{SingleFault}
use Rattle.fault_plan.specs.declared.single.What.{What}
use Rattle.fault_plan.specs.declared.single.What.TheVariants.{Silent, Wrong, Fresh, Others, Last, Right, Forced, Held, Exchanged, ExchangedAndReset}

-- the kinds of faults, each with its data
abbrev pub whats : List What
whats = Silent ∷ Wrong 0 ∷ Wrong 18446744073709551615 ∷ Fresh Off ∷ Fresh Full ∷ Fresh Up ∷ Fresh Down ∷ Others ∷ Last ∷ Right
    ∷ Forced Off ∷ Forced Full ∷ Forced Up ∷ Forced Down ∷ Held 1 ∷ Held 2 ∷ Held 3 ∷ Held 4 ∷ Held 5
    ∷ Exchanged 1 ∷ Exchanged 10 ∷ ExchangedAndReset 1 ∷ ExchangedAndReset 10 ∷ []

abbrev pub single : ℕ → Side → What → SingleFault
single tick side what = record { tick = tick; side = side; what = what }

-- those that begin in one tick: of A, and then of B
abbrev pub of_tick : ℕ → List SingleFault
of_tick tick = map (single tick A) whats ++ map (single tick B) whats

-- those of so many ticks, from this one on
unfoldable pub faults_from : ℕ → ℕ → List SingleFault
faults_from tick zero = []
faults_from tick (suc more) = of_tick tick ++ faults_from (tick + 1) more

-- those over a script with so many ticks
abbrev pub single_faults : ℕ → List SingleFault
single_faults ticks = faults_from 1 ticks
