-- Ticks with one input.
use Rattle.std.specs.Prelude.{◌≡◌, ℕ, ◌<◌, ◌≤◌, List, slice_get, Some}
use Rattle.lift_model.specs.Records.{InputData}

-- the input of each tick after tick `from` up to tick `to` is this one
abbrev pub AllAre : List InputData → InputData → ℕ → ℕ → Type 0
AllAre inputs x from to = (k : ℕ) → from ≤ k → k < to → slice_get inputs k ≡ Some x
