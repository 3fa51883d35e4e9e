-- The changes of a path, tick by tick.
use Rattle.std.proofs.Common.{◌≡◌, ◌<◌, ◌≤◌, ◌+◌, ◌-◌, ◌++◌, ◌∙◌, ℕ, zero, suc, Bool, true, false, List, [], ◌∷◌, length, take, get_or, Some, None, refl, sym, ap, arith, append_assoc, if◌then◌else◌}
use Rattle.std.specs.Prelude.{option_to_list}
use Rattle.std.specs.declared.option.Option.{Option}
use Rattle.std.proofs.lemmas.List.{append-nil}
use Rattle.lift_base.specs.declared.Kind.{Kind}
use Rattle.lift_base.specs.declared.Kind.TheVariants.{Off}
use Rattle.core_model.specs.Settling.{Settled, no_settled}
use Rattle.script_model.specs.Changes.{ChangeData}
use Rattle.script_model.specs.Report.{change_at, is_change, changes_from, changes_of}
use Rattle.report.specs.Ticks.{change_of}

-- tick t, where the tick before it settled this
abbrev one : Settled → Settled → ℕ → Option ChangeData
one old new t = if is_change old.power old.alarm new.power new.alarm then Some (change_at t new) else None

same_one : (b : Bool) (c : ChangeData) → (if b then c ∷ [] else []) ≡ option_to_list (if b then Some c else None)
same_one true c = refl
same_one false c = refl

-- one tick more, in a path whose first tick is t and that comes after old
more_from : (old : Settled) (t : ℕ) (path : List Settled) (i u : ℕ) → i < length path → u ≡ t + i
    → changes_from old.power old.alarm t (take (suc i) path)
    ≡ changes_from old.power old.alarm t (take i path) ++ option_to_list (one (get_or (old ∷ path) i no_settled)
    (get_or path i no_settled) u)
more_from old t [] i u lt is = absurd (omega (arith, lt))
more_from old t (s ∷ path) zero u lt is =
    let here : u ≡ t = omega (arith, is) in
    append-nil (if is_change old.power old.alarm s.power s.alarm then change_at t s ∷ [] else [])
    ∙ same_one (is_change old.power old.alarm s.power s.alarm) (change_at t s)
    ∙ ap (λ (n : ℕ). option_to_list (one old s n)) (sym here)
more_from old t (s ∷ path) (suc i) u lt is =
    let first = if is_change old.power old.alarm s.power s.alarm then change_at t s ∷ [] else [] in
    let more = more_from s (t + 1) path i u (omega (arith, lt)) (omega (arith, is)) in
    ap (λ (l : List ChangeData). first ++ l) more
    ∙ sym (append_assoc first (changes_from s.power s.alarm (t + 1) (take i path))
    (option_to_list (one (get_or (s ∷ path) i no_settled) (get_or path i no_settled) u)))

pub one_tick_more : (path : List Settled) (n : ℕ) → 1 ≤ n → n ≤ length path
    → changes_of (take n path) ≡ changes_of (take (n - 1) path) ++ option_to_list (change_of path n)
one_tick_more path n first last =
    let i : suc (n - 1) ≡ n = omega (arith, first) in
    ap (λ (k : ℕ). changes_of (take k path)) (sym i)
    ∙ more_from no_settled 1 path (n - 1) n (omega (arith, first, last)) (omega (arith, first))

-- the changes of the first ticks stand first
front_from : (power : Kind) (alarm : Bool) (t : ℕ) (path : List Settled) (i : ℕ)
    → (rest : List ChangeData) × (changes_from power alarm t path ≡ changes_from power alarm t (take i path) ++ rest)
front_from power alarm t path zero = (changes_from power alarm t path, refl)
front_from power alarm t [] (suc i) = ([], refl)
front_from power alarm t (s ∷ path) (suc i) =
    let first = if is_change power alarm s.power s.alarm then change_at t s ∷ [] else [] in
    let more = front_from s.power s.alarm (t + 1) path i in (
      more.0,
      ap (λ (l : List ChangeData). first ++ l) more.1
          ∙ sym (append_assoc first (changes_from s.power s.alarm (t + 1) (take i path)) more.0),
    )

pub first_ticks : (path : List Settled) (i : ℕ) → (rest : List ChangeData) × (changes_of path ≡ changes_of (take i path) ++ rest)
first_ticks path i = front_from Off false 1 path i
