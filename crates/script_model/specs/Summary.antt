-- What is shown of the run of a generated script.
use Rattle.std.specs.Prelude.{ℕ, List, ◌++◌, length, codes, decimal}
use Rattle.core_model.specs.Settling.{Settled}
use Rattle.script_model.specs.Report.{changes_of, totals_text}

-- its number, and the last line of the report
unfoldable pub summary_text : ℕ → List Settled → List ℕ
summary_text number path = codes "load " ++ decimal number ++ codes " " ++ totals_text path (length (changes_of path))
