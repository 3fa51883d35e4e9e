-- The rows of discrepant ticks, wire by wire.
use Rattle.std.specs.Prelude.{ℕ, ◌+◌, List, slice_index, min, if◌then◌else◌}
use Rattle.lift_model.specs.Records.{WireWords}
use Rattle.lift_model.specs.Wires.{is_discrepant}

-- a wire's row after one tick more
abbrev pub next_row : ℕ → WireWords → List ℕ → ℕ → ℕ
next_row disc words rows i = if is_discrepant words i then min (slice_index rows i + 1) disc else 0
