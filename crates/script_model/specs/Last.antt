-- The last changes of a path.
use Rattle.std.specs.Prelude.{ℕ, ◌-◌, List, length, drop}
use Rattle.core_model.specs.Settling.{Settled}
use Rattle.script_model.specs.Changes.{ChangeData}
use Rattle.script_model.specs.Report.{changes_of, changes_text}

-- the last n of some changes; all of them where there are no more
abbrev pub last_of : ℕ → List ChangeData → List ChangeData
last_of n changes = drop (length changes - n) changes

-- the lines of the last n changes, oldest first, and the last line of the report
unfoldable pub last_text : ℕ → List Settled → List ℕ
last_text n path = changes_text (last_of n (changes_of path)) path
