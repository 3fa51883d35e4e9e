-- The lines of the rounds, tick by tick.
use Rattle.std.proofs.Common.{◌≡◌, ◌<◌, ◌≤◌, ◌+◌, ◌++◌, List, ◌∷◌, ℕ, length, drop, get_or, slice_get, Some, ap, ◌∙◌, subst, append_assoc}
use Rattle.std.specs.declared.option.Option.{Option}
use Rattle.std.specs.declared.result.Result.{Result}
use Rattle.std.specs.Io.KnownBytes.{Appends}
use Rattle.std.proofs.lemmas.List.{drop_more, drop_all}
use Rattle.std.proofs.lemmas.Option.{slice_get-get_or}
use Rattle.lift_io.specs.Puts.{AppendsUpTo, AppendsFront, PutsText}
use Rattle.lift_io.proofs.Writing.{piece_at, front_at, last_piece}
use Rattle.core_model.specs.Settling.{Settled, no_settled}
use Rattle.round_model.specs.Records.{RoundData}
use Rattle.round_model.specs.Turns.{held_turn}
use Rattle.script_model.specs.Rounds.{round_text, rounds_from}

-- where a list ends
abbrev no_round : RoundData
no_round = record { a = held_turn; b = held_turn }

-- the round after so many
abbrev pub after : List RoundData → ℕ → RoundData
after rounds before = get_or rounds before no_round

pub there : (rounds : List RoundData) (before : ℕ) → before < length rounds → slice_get rounds before ≡ Some (after rounds before)
there rounds before lt = slice_get-get_or rounds before no_round lt

-- the line of the tick after so many
abbrev pub line_after : List Settled → List RoundData → ℕ → List ℕ
line_after path rounds before = round_text (before + 1) (get_or path before no_settled).power (after rounds before)

-- the lines that are left
abbrev pub lines_left : List Settled → List RoundData → ℕ → List ℕ
lines_left path rounds before = rounds_from (before + 1) (drop before path) (drop before rounds)

lines-more : (path : List Settled) (rounds : List RoundData) (before : ℕ) → before < length path → before < length rounds
    → lines_left path rounds before ≡ line_after path rounds before ++ lines_left path rounds (before + 1)
lines-more path rounds before lt lt' =
    ap (λ left. rounds_from (before + 1) left (drop before rounds)) (drop_more path before no_settled lt)
    ∙ ap (rounds_from (before + 1) (get_or path before no_settled ∷ drop (before + 1) path)) (drop_more rounds before no_round lt')

module _ {old mid : Option (List ℕ)} (new : Option (List ℕ)) {text : List ℕ} (last : List ℕ) (path : List Settled) (rounds : List RoundData)
    (before : ℕ) where
  at_line : before < length path → before < length rounds → AppendsUpTo old mid text (lines_left path rounds before ++ last)
      → AppendsUpTo old mid text (line_after path rounds before ++ (lines_left path rounds (before + 1) ++ last))
  at_line lt lt' so_far = subst (AppendsUpTo old mid text)
      (ap (λ lines. lines ++ last) (lines-more path rounds before lt lt')
      ∙ append_assoc (line_after path rounds before) (lines_left path rounds (before + 1)) last) so_far

  -- the line of a tick was written
  pub line-written : before < length path → before < length rounds → AppendsUpTo old mid text (lines_left path rounds before ++ last)
      → Appends mid new (line_after path rounds before) → AppendsUpTo old new text (lines_left path rounds (before + 1) ++ last)
  line-written lt lt' so_far wrote = piece_at new _ _ (at_line lt lt' so_far) wrote

  -- a front of it was written
  pub line-cut : before < length path → before < length rounds → AppendsUpTo old mid text (lines_left path rounds before ++ last)
      → AppendsFront mid new (line_after path rounds before) → AppendsFront old new text
  line-cut lt lt' so_far wrote = front_at new _ _ (at_line lt lt' so_far) wrote

  -- all lines were written, and then the last one
  pub whole_rounds : {T E : Type 0} (r : Result T E) → length path ≤ before
      → AppendsUpTo old mid text (lines_left path rounds before ++ last) → PutsText mid new r last → PutsText old new r text
  whole_rounds r past so_far wrote =
      last_piece new r (subst (λ left. AppendsUpTo old mid text (rounds_from (before + 1) left (drop before rounds) ++ last))
      (drop_all before path past) so_far) wrote
