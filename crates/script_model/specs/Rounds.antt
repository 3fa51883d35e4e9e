-- The rounds of a run: a line for each tick with what the sides did in it, and the last line of the report.
use Rattle.std.specs.Prelude.{ℕ, ◌+◌, if◌then◌else◌, List, [], ◌∷◌, ◌++◌, length, codes, decimal}
use Rattle.std.specs.declared.option.Option.{Option}
use Rattle.std.specs.declared.option.Option.TheVariants.{None, Some}
use Rattle.lift_base.specs.declared.Kind.{Kind}
use Rattle.can_frame.specs.Spelling.{hex16}
use Rattle.core_model.specs.Settling.{Settled}
use Rattle.round_model.specs.Records.{TurnData, RoundData}
use Rattle.script_model.specs.Report.{kind_text, changes_of, totals_text}

-- a word that was stored, or a dash
abbrev pub stored_text : Option ℕ → List ℕ
stored_text None = codes "-"
stored_text (Some word) = hex16 word

-- how a side that acted is named
abbrev pub acted_text : TurnData → List ℕ
acted_text turn = if turn.failed then codes "failed " else codes "ok "

-- a side that acted, with its publish, seen and command words; a held side has none
unfoldable pub turn_text : TurnData → List ℕ
turn_text turn =
    if turn.acted then acted_text turn ++ stored_text turn.publish ++ codes " " ++ hex16 turn.seen ++ codes " " ++ stored_text turn.command
    else codes "held"

-- the line of tick t, which settled this power
unfoldable pub round_text : ℕ → Kind → RoundData → List ℕ
round_text t power round =
    decimal t ++ codes " " ++ kind_text power ++ codes " A " ++ (turn_text round.a ++ codes " B " ++ (turn_text round.b ++ codes "\n"))

-- the lines from tick t on, as far as there are rounds
abbrev pub rounds_from : ℕ → List Settled → List RoundData → List ℕ
rounds_from t [] rounds = []
rounds_from t (s ∷ path) [] = []
rounds_from t (s ∷ path) (round ∷ rounds) = round_text t s.power round ++ rounds_from (t + 1) path rounds

unfoldable pub rounds_text : List Settled → List RoundData → List ℕ
rounds_text path rounds = rounds_from 1 path rounds ++ totals_text path (length (changes_of path))
