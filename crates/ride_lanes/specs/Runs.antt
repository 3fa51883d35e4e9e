-- The runs of a column of values: what a lane shows at each tick, the first of them at tick t.
use Rattle.std.specs.Prelude.{ℕ, ◌≡◌, ◌≢◌, ◌⊎◌, ◌<◌, ◌+◌, List, [], ◌∷◌, ◌++◌, replicate}
use Rattle.ride_lanes.specs.declared.bars.Bar.{Bar}
use Rattle.ride_lanes.specs.declared.cells.Cell.{Cell}

-- this value comes first
abbrev pub BeginsWith : Cell → List Cell → Type 0
BeginsWith x [] = ⊥
BeginsWith x (y ∷ ys) = y ≡ x

-- from tick t on a column is the ticks of this bar, one at least, and then a rest that does not begin with the bar's value
pub record IsBarThen (t : ℕ) (column : List Cell) (bar : Bar) (rest : List Cell) : Type 0 where
  pub whole : column ≡ replicate bar.ticks bar.cell ++ rest
  pub first : bar.first ≡ t
  pub some : 0 < bar.ticks
  pub ends : ¬ BeginsWith bar.cell rest

-- the bars are those of the column, one after the other, and nothing is left
abbrev pub AreRuns : ℕ → List Cell → List Bar → Type 0
AreRuns t column [] = column ≡ []
AreRuns t column (bar ∷ bars) = (rest : List _) × IsBarThen t column bar rest × AreRuns (t + bar.ticks) rest bars

-- From tick t on, behind a value, these are the changes of a column: a tick that shows another value than the one before it has one, with
-- that value, and a tick that shows the same has none.
abbrev pub AreChangesAfter : Cell → ℕ → List Cell → List (ℕ × Cell) → Type 0
AreChangesAfter before t [] changes = changes ≡ []
AreChangesAfter before t (x ∷ xs) changes =
    ((x ≡ before) × AreChangesAfter before (t + 1) xs changes)
    ⊎ ((x ≢ before) × ((rest : List _) × (changes ≡ (t, x) ∷ rest) × AreChangesAfter x (t + 1) xs rest))

-- the changes of a column: its first tick has one
abbrev pub AreChanges : List Cell → List (ℕ × Cell) → Type 0
AreChanges [] changes = changes ≡ []
AreChanges (x ∷ xs) changes = (rest : List _) × (changes ≡ (1, x) ∷ rest) × AreChangesAfter x 2 xs rest

-- where a bar begins, and its value
abbrev pub start_of : Bar → ℕ × Cell
start_of bar = (bar.first, bar.cell)

-- how long a bar is
abbrev pub ticks_of : Bar → ℕ
ticks_of bar = bar.ticks
