-- The lines of a report of supplies, tick by tick.
use Rattle.std.proofs.Common.{◌≡◌, ◌<◌, ◌≤◌, ◌+◌, ◌++◌, List, [], ◌∷◌, ℕ, length, drop, get_or, ap, sym, ◌∙◌, subst, append_assoc, if◌then◌else◌, Bool}
use Rattle.std.specs.declared.option.Option.{Option}
use Rattle.std.specs.declared.result.Result.{Result}
use Rattle.std.specs.Io.KnownBytes.{Appends}
use Rattle.std.proofs.lemmas.List.{drop_more, drop_all}
use Rattle.lift_io.specs.Puts.{AppendsUpTo, AppendsFront, PutsText}
use Rattle.lift_io.proofs.Writing.{piece_at, front_at, last_piece}
use Rattle.lift_base.specs.declared.supplies.Supply.{Supply}
use Rattle.core_model.specs.Settling.{Settled, no_settled}
use Rattle.core_model.specs.Supplies.{GivenData, nothing_given}
use Rattle.script_model.specs.SupplyReport.{supply_line, is_supply_change, supply_lines}

-- the lines that are left after so many ticks, where these were the supply and the alarm of the last of them
abbrev pub lines_left : Supply → Bool → List GivenData → List Settled → ℕ → List ℕ
lines_left last alarm given path before = supply_lines last alarm (before + 1) (drop before given) (drop before path)

-- the line of the next tick, where it is a change
abbrev pub line_if : Bool → ℕ → Settled → GivenData → List ℕ
line_if is t s g = if is then supply_line t s g else []

-- the line of the next tick stands first
lines-more : (last : Supply) (alarm : Bool) (given : List GivenData) (path : List Settled) (before : ℕ)
    → before < length given → before < length path
    → let g = get_or given before nothing_given in
    lines_left last alarm given path before
    ≡ line_if (is_supply_change last alarm g.supply g.alarm) (before + 1) (get_or path before no_settled) g
    ++ lines_left g.supply g.alarm given path (before + 1)
lines-more last alarm given path before lt lt' =
    ap (λ left. supply_lines last alarm (before + 1) left (drop before path)) (drop_more given before nothing_given lt)
    ∙ ap (supply_lines last alarm (before + 1) (get_or given before nothing_given ∷ drop (before + 1) given))
    (drop_more path before no_settled lt')

module _ {old mid : Option (List ℕ)} (new : Option (List ℕ)) {text : List ℕ} (totals : List ℕ) (given : List GivenData)
    (path : List Settled) (before : ℕ) (last : Supply) (alarm : Bool) where
  module _ (is : Bool) (s : Settled) (g : GivenData) where
    at_line : before < length given → before < length path → g ≡ get_or given before nothing_given → s ≡ get_or path before no_settled
        → is ≡ is_supply_change last alarm g.supply g.alarm
        → AppendsUpTo old mid text (lines_left last alarm given path before ++ totals)
        → AppendsUpTo old mid text (line_if is (before + 1) s g ++ (lines_left g.supply g.alarm given path (before + 1) ++ totals))
    at_line lt lt' same settled named so_far =
        let Left : Bool → Settled → GivenData → Type 0 = λ b r h.
        AppendsUpTo old mid text (line_if b (before + 1) r h ++ (lines_left h.supply h.alarm given path (before + 1) ++ totals)) in
        let next = get_or given before nothing_given in
        let here = get_or path before no_settled in
        let more : Left (is_supply_change last alarm next.supply next.alarm) here next =
        subst (AppendsUpTo old mid text)
        (ap (λ lines. lines ++ totals) (lines-more last alarm given path before lt lt')
        ∙ append_assoc (line_if (is_supply_change last alarm next.supply next.alarm) (before + 1) here next)
        (lines_left next.supply next.alarm given path (before + 1)) totals) so_far in
        subst (λ (b : Bool). Left b s g) (sym named)
        (subst (λ (r : Settled). Left (is_supply_change last alarm g.supply g.alarm) r g) (sym settled)
        (subst (λ (h : GivenData). Left (is_supply_change last alarm h.supply h.alarm) here h) (sym same) more))

    -- the line of a tick was written, if it is one
    pub line-written : before < length given → before < length path → g ≡ get_or given before nothing_given
        → s ≡ get_or path before no_settled → is ≡ is_supply_change last alarm g.supply g.alarm
        → AppendsUpTo old mid text (lines_left last alarm given path before ++ totals)
        → Appends mid new (line_if is (before + 1) s g)
        → AppendsUpTo old new text (lines_left g.supply g.alarm given path (before + 1) ++ totals)
    line-written lt lt' same settled named so_far wrote = piece_at new _ _ (at_line lt lt' same settled named so_far) wrote

    -- a front of it was written
    pub line-cut : before < length given → before < length path → g ≡ get_or given before nothing_given
        → s ≡ get_or path before no_settled → is ≡ is_supply_change last alarm g.supply g.alarm
        → AppendsUpTo old mid text (lines_left last alarm given path before ++ totals)
        → AppendsFront mid new (line_if is (before + 1) s g) → AppendsFront old new text
    line-cut lt lt' same settled named so_far wrote = front_at new _ _ (at_line lt lt' same settled named so_far) wrote

  -- all lines were written, and then the last one
  pub whole_supply : {T E : Type 0} (r : Result T E) → length given ≤ before
      → AppendsUpTo old mid text (lines_left last alarm given path before ++ totals) → PutsText mid new r totals → PutsText old new r text
  whole_supply r past so_far wrote =
      last_piece new r (subst (λ left. AppendsUpTo old mid text (supply_lines last alarm (before + 1) left (drop before path) ++ totals))
      (drop_all before given past) so_far) wrote
