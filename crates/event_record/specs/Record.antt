-- A record of the last changes.
use Rattle.std.specs.Prelude.{ℕ, ◌≡◌, List}
use Rattle.script_model.specs.Changes.{ChangeData}
use Rattle.script_model.specs.Last.{last_of}

-- its changes, oldest first, and how many it may keep
pub record RecordData : Type 0 where
  pub changes : List ChangeData
  pub size : ℕ

-- of the changes that were noted it keeps the last, as many as its size
abbrev pub Keeps : List ChangeData → RecordData → Type 0
Keeps noted r = r.changes ≡ last_of r.size noted
