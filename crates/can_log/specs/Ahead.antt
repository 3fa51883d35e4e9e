-- What lies ahead as the ticks are made one after the other.
use Rattle.std.specs.Prelude.{ℕ, ◌≡◌, ◌<◌, ◌==◌, nat_le, List, [], ◌∷◌, if◌then◌else◌}
use Rattle.std.specs.List.{AllByRecursion}
use Rattle.lift_model.specs.Records.{FrameData}
use Rattle.can_log.specs.declared.log.Taken.{Taken}
use Rattle.can_log.specs.declared.wires.WireRow.{WireRow}
use Rattle.can_log.specs.Taken.{tick_at, frames_in}
use Rattle.can_log.specs.Kept.{IsSorted}

-- the frames of a tick that stand in front
abbrev pub front : ℕ → List Taken → List FrameData
front n [] = []
front n (t ∷ ts) = if t.tick == n then t.frame ∷ front n ts else []

-- the rows behind those of a tick
abbrev pub rows_behind : ℕ → ℕ → ℕ → List WireRow → List WireRow
rows_behind first tick n [] = []
rows_behind first tick n (r ∷ rows) = if nat_le (tick_at first tick r.time) n then rows_behind first tick n rows else r ∷ rows

-- behind n ticks, these are the frames of the later ones
pub record IsAhead (n : ℕ) (all ahead : List Taken) : Type 0 where
  pub same : (m : ℕ) → n < m → frames_in m all ≡ frames_in m ahead
  pub sorted : IsSorted ahead
  pub above : AllByRecursion (λ t. n < t.tick) ahead
