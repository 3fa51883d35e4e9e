-- What contracts see of those at the board.
use Rattle.std.specs.Prelude.{ℕ, Bool}
use Rattle.atomic_table.specs.Seated.{TableId}
use Rattle.lift_base.specs.declared.Side.{Side}
use Rattle.round_board.specs.declared.words.Collected.{Collected}
use Rattle.round_board.specs.declared.tally.Tally.{Tally}

-- which board it is
abbrev pub BoardId : Type 0
BoardId = TableId

-- the seat of a side, or the receipt of a side: what it did in its last tick
pub record SideData : Type 0 where
  pub board : BoardId
  pub side : Side
  pub tally : Tally

-- the pass of a side for a tick
pub record PassData : Type 0 where
  pub board : BoardId
  pub side : Side
  pub tick : ℕ

-- the conductor: the tick last raised, whether its round is open, and the words last collected
pub record ConductorData : Type 0 where
  pub board : BoardId
  pub tick : ℕ
  pub open_ : Bool
  pub words : Collected
