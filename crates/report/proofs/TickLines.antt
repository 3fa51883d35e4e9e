-- The lines of a report, tick by tick.
use Rattle.std.proofs.Common.{◌≡◌, ◌<◌, ◌≤◌, ◌+◌, ◌++◌, List, [], ◌∷◌, ℕ, length, drop, get_or, refl, sym, ◌∙◌, subst, append_assoc, if◌then◌else◌, Bool, true, false}
use Rattle.std.specs.List.{flat_map}
use Rattle.std.specs.declared.option.Option.{Option}
use Rattle.std.specs.declared.result.Result.{Result}
use Rattle.std.specs.Io.KnownBytes.{Appends}
use Rattle.std.proofs.lemmas.List.{at_drop_more, at_drop_all}
use Rattle.lift_io.specs.Puts.{AppendsUpTo, AppendsFront, PutsText}
use Rattle.lift_io.proofs.Writing.{piece_at, front_at, last_piece}
use Rattle.lift_base.specs.declared.Kind.{Kind}
use Rattle.script_model.specs.Changes.{ChangeData}
use Rattle.core_model.specs.Settling.{Settled, no_settled}
use Rattle.script_model.specs.Report.{change_at, is_change, changes_from, change_text}

-- what the tick after so many settled
abbrev pub after : List Settled → ℕ → Settled
after path before = get_or path before no_settled

-- the lines of the changes that are left, where this was the power and the alarm of the tick before
abbrev pub lines_left : Kind → Bool → ℕ → List Settled → List ℕ
lines_left power alarm t path = flat_map change_text (changes_from power alarm t path)

line_first : (is : Bool) (c : ChangeData) (more : List ChangeData)
    → flat_map change_text ((if is then c ∷ [] else []) ++ more) ≡ (if is then change_text c else []) ++ flat_map change_text more
line_first true c more = refl
line_first false c more = refl

-- the line of the next tick stands first
lines-more : (path : List Settled) (before : ℕ) (power : Kind) (alarm : Bool) → before < length path
    → lines_left power alarm (before + 1) (drop before path)
    ≡ (if is_change power alarm (after path before).power (after path before).alarm then change_text
    (change_at (before + 1) (after path before)) else [])
    ++ lines_left (after path before).power (after path before).alarm (before + 1 + 1) (drop (before + 1) path)
lines-more path before power alarm lt =
    at_drop_more (lines_left power alarm (before + 1)) path before no_settled lt
    ∙ line_first (is_change power alarm (after path before).power (after path before).alarm) (change_at (before + 1) (after path before)) _

at_tick : {old mid : Option (List ℕ)} {text : List ℕ} (last : List ℕ) (path : List Settled) (before : ℕ) (power : Kind) (alarm : Bool)
    → before < length path
    → AppendsUpTo old mid text (lines_left power alarm (before + 1) (drop before path) ++ last)
    → AppendsUpTo old mid text ((if is_change power alarm (after path before).power (after path before).alarm then change_text
    (change_at (before + 1) (after path before)) else [])
    ++ (lines_left (after path before).power (after path before).alarm (before + 1 + 1) (drop (before + 1) path) ++ last))
at_tick {old} {mid} {text} last path before power alarm lt so_far =
    rw (← append_assoc) (subst (λ lines. AppendsUpTo old mid text (lines ++ last)) (lines-more path before power alarm lt) so_far)

at_change : {old mid : Option (List ℕ)} {text : List ℕ} (last : List ℕ) (path : List Settled) (before : ℕ) (power : Kind)
    (alarm is : Bool) (c : ChangeData)
    → before < length path → change_at (before + 1) (after path before) ≡ c → is ≡ is_change power alarm c.power c.alarm
    → AppendsUpTo old mid text (lines_left power alarm (before + 1) (drop before path) ++ last)
    → AppendsUpTo old mid text ((if is then change_text c else []) ++ (lines_left c.power c.alarm (before + 1 + 1)
    (drop (before + 1) path) ++ last))
at_change {old} {mid} {text} last path before power alarm is c lt same named so_far =
    let Left : Bool → ChangeData → Type 0 = λ b d. AppendsUpTo old mid text
    ((if b then change_text d else []) ++ (lines_left d.power d.alarm (before + 1 + 1) (drop (before + 1) path) ++ last)) in
    subst (λ (b : Bool). Left b c) (sym named)
    (subst (λ (d : ChangeData). Left (is_change power alarm d.power d.alarm) d) same (at_tick last path before power alarm lt so_far))

-- the line of a tick was written, if it is one
pub tick-written : {old mid : Option (List ℕ)} (new : Option (List ℕ)) {text : List ℕ} (last : List ℕ) (path : List Settled) (before : ℕ)
    (power : Kind) (alarm is : Bool) (c : ChangeData)
    → before < length path → change_at (before + 1) (after path before) ≡ c → is ≡ is_change power alarm c.power c.alarm
    → AppendsUpTo old mid text (lines_left power alarm (before + 1) (drop before path) ++ last)
    → Appends mid new (if is then change_text c else [])
    → AppendsUpTo old new text (lines_left c.power c.alarm (before + 1 + 1) (drop (before + 1) path) ++ last)
tick-written new last path before power alarm is c lt same named so_far wrote =
    piece_at new _ _ (at_change last path before power alarm is c lt same named so_far) wrote

-- a front of it was written
pub tick-cut : {old mid : Option (List ℕ)} (new : Option (List ℕ)) {text : List ℕ} (last : List ℕ) (path : List Settled) (before : ℕ)
    (power : Kind) (alarm is : Bool) (c : ChangeData)
    → before < length path → change_at (before + 1) (after path before) ≡ c → is ≡ is_change power alarm c.power c.alarm
    → AppendsUpTo old mid text (lines_left power alarm (before + 1) (drop before path) ++ last)
    → AppendsFront mid new (if is then change_text c else [])
    → AppendsFront old new text
tick-cut new last path before power alarm is c lt same named so_far wrote =
    front_at new _ _ (at_change last path before power alarm is c lt same named so_far) wrote

-- all lines were written, and then the last one
pub whole_report : {T E : Type 0} {old mid : Option (List ℕ)} (new : Option (List ℕ)) {text : List ℕ} (r : Result T E) (last : List ℕ)
    (path : List Settled) (before : ℕ) (power : Kind) (alarm : Bool) (t : ℕ)
    → length path ≤ before → AppendsUpTo old mid text (lines_left power alarm t (drop before path) ++ last) → PutsText mid new r last
    → PutsText old new r text
whole_report {T} {E} {old} {mid} new {text} r last path before power alarm t past so_far wrote =
    last_piece new r (subst (λ lines. AppendsUpTo old mid text (lines ++ last))
    (at_drop_all (lines_left power alarm t) path before past) so_far) wrote
