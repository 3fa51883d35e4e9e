-- What a source and a sink over memory keep.
use Rattle.std.specs.Prelude.{ℕ, ◌+◌, ◌-◌, ◌^◌, min, List}

-- a source: the bytes that are left, the calls that fail, and the counts of calls and of faults
pub record Tape : Type 0 where
  pub left : List ℕ
  pub fails : List ℕ
  pub calls : ℕ
  pub faults : ℕ

-- a sink: the bytes held, the room for them, the calls that fail, and the counts of calls and of faults
pub record Shelf : Type 0 where
  pub held : List ℕ
  pub room : ℕ
  pub fails : List ℕ
  pub calls : ℕ
  pub faults : ℕ

-- the next number of a count that stops at its type's end
abbrev pub next : ℕ → ℕ
next n = min (n + 1) (2 ^ 64 - 1)
