-- Changes that are appended after others, and the changes of a path so far.
use Rattle.std.proofs.Common.{ℕ, suc, ◌≡◌, ◌+◌, ◌-◌, ◌≤◌, ◌∙◌, List, [], ◌∷◌, ◌++◌, length, take, refl, sym, ap, subst, arith, append_assoc, length-append, Bool, true, false, if◌then◌else◌}
use Rattle.std.specs.Prelude.{All, MatchOption, option_to_list}
use Rattle.std.specs.declared.option.Option.{Option}
use Rattle.std.specs.declared.option.Option.TheVariants.{None, Some}
use Rattle.std.proofs.lemmas.List.{take-append-le, take_all}
use Rattle.std.proofs.lemmas.List.Elements.{All-nil, All-cons}
use Rattle.std.proofs.Math.Seq.{take-append-add}
use Rattle.core_model.specs.Settling.{Settled}
use Rattle.lift_base.specs.declared.Kind.{Kind}
use Rattle.record_disk.specs.Disk.{Content, State, Told, IfTold, BothTold, IsPresent}
use Rattle.record_disk.proofs.Moments.{weaken, run_on, both_map, both_then, both_with}
use Rattle.record_store.specs.Record.{IsClean}
use Rattle.record_store.specs.Store.{HasFront, IsTimely, KeepsAll, LeavesFront, Stands}
use Rattle.record_store.proofs.Fronts.{none_yet, fronts, all_done}
use Rattle.record_store.specs.declared.slot.TheConstants.{LAST_TICK}
use Rattle.report.specs.Ticks.{change_of, settled_before, settled_at}
use Rattle.report.proofs.TickChanges.{first_ticks}
use Rattle.script_model.specs.Changes.{ChangeData}
use Rattle.script_model.specs.Report.{change_at, changes_from, changes_of, is_change}

-- ---- one tick

pub slice_of : (change : Option ChangeData) (xs : List ChangeData) → MatchOption change (xs ≡ []) (λ x. xs ≡ x ∷ [])
    → xs ≡ option_to_list change
slice_of None xs is = is
slice_of (Some x) xs is = is

-- the change of a tick that a record can name may be stored
timely_if : (b : Bool) (t : ℕ) (s : Settled) → 1 ≤ t → t ≤ LAST_TICK
    → All IsTimely (option_to_list (if b then Some (change_at t s) else None))
timely_if true t s first last = All-cons IsTimely (change_at t s) [] (first, last) (All-nil IsTimely)
timely_if false t s first last = All-nil IsTimely

pub timely_at : (path : List Settled) (t : ℕ) → 1 ≤ t → t ≤ LAST_TICK → All IsTimely (option_to_list (change_of path t))
timely_at path t first last =
    let old = settled_before path t in
    let new = settled_at path t in
    timely_if (is_change old.power old.alarm new.power new.alarm) t new first last

module _ (path : List Settled) (before : ℕ) (change : Option ChangeData) (xs : List ChangeData) (is : xs ≡ option_to_list change)
    (adds : changes_of (take (before + 1) path) ≡ changes_of (take (before + 1 - 1) path) ++ option_to_list change) where
  pub one_more : changes_of (take (before + 1) path) ≡ changes_of (take before path) ++ xs
  one_more =
      let back : before + 1 - 1 ≡ before = omega arith in
      adds ∙ ap (λ (i : ℕ). changes_of (take i path) ++ option_to_list change) back
      ∙ ap (λ (l : List ChangeData). changes_of (take before path) ++ l) (sym is)

  -- the others
  pub others : (rest : List ChangeData) × (changes_of path ≡ (changes_of (take before path) ++ xs) ++ rest)
  others =
      let more = first_ticks path (before + 1) in
      (more.0, more.1 ∙ ap (λ (l : List ChangeData). l ++ more.0) one_more)

  pub one_longer : length (changes_of (take (before + 1) path)) ≡ length (changes_of (take before path)) + length xs
  one_longer = ap (λ (l : List ChangeData). length l) one_more ∙ length-append (changes_of (take before path)) xs

  pub few_more : length (changes_of (take before path)) + length xs ≤ length (changes_of path)
  few_more =
      let front = changes_of (take before path) in
      let whole : length (changes_of path) ≡ length front + length xs + length others.0 =
      ap (λ (l : List ChangeData). length l) others.1 ∙ length-append (front ++ xs) others.0
      ∙ ap (λ (n : ℕ). n + length others.0) (length-append front xs) in
      omega (arith, whole)

-- there are no more changes than ticks
at_most_one : (b : Bool) (x : ChangeData) (more : List ChangeData) → length ((if b then x ∷ [] else []) ++ more) ≤ suc (length more)
at_most_one true x more = omega arith
at_most_one false x more = omega arith

pub few_changes : (power : Kind) (alarm : Bool) (t : ℕ) (path : List Settled)
    → length (changes_from power alarm t path) ≤ length path
few_changes power alarm t [] = omega arith
few_changes power alarm t (s ∷ path) =
    let one = at_most_one (is_change power alarm s.power s.alarm) (change_at t s) (changes_from s.power s.alarm (t + 1) path) in
    let more = few_changes s.power s.alarm (t + 1) path in
    omega (arith, one, more)

-- the changes of all ticks
pub all_ticks : (path : List Settled) (i : ℕ) → length path ≤ i → changes_of (take i path) ≡ changes_of path
all_ticks path i past = ap changes_of (take_all i path past)

-- ---- appends

-- none yet
pub none_left : (n : ℕ) (a : Told) → IfTold a IsPresent → IfTold a (Stands n) → BothTold a a (LeavesFront [])
none_left n a present stands = fronts [] 0 a a (none_yet [] n a present stands)

pub none_kept : (n : ℕ) (a : Told) → IfTold a IsPresent → IfTold a (Stands n) → BothTold a a (KeepsAll [])
none_kept n a present stands = all_done [] 0 n a a (omega arith) stands (none_yet [] n a present stands)

module _ (xs ys : List ChangeData) where
  front_first : (entries : List ChangeData) (c : Content) → HasFront entries xs c → HasFront entries (xs ++ ys) c
  front_first entries c (n, le, clean) = (
    n,
    omega (arith, le, length-append xs ys),
    subst (λ (l : List ChangeData). IsClean c (entries ++ l)) (sym (take-append-le n xs ys le)) clean,
  )

  front_then : (entries : List ChangeData) (c : Content) → HasFront (entries ++ xs) ys c → HasFront entries (xs ++ ys) c
  front_then entries c (n, le, clean) = (
    length xs + n,
    omega (arith, le, length-append xs ys),
    subst (IsClean c) (append_assoc entries xs (take n ys)
        ∙ ap (λ (l : List ChangeData). entries ++ l) (sym (take-append-add xs ys n))) clean,
  )

  -- a front of some is one of more
  pub left_longer : (a b : Told) → BothTold a b (LeavesFront xs) → BothTold a b (LeavesFront (xs ++ ys))
  left_longer a b so = both_map a b (LeavesFront xs) (LeavesFront (xs ++ ys)) (λ s t h entries clean.
      weaken s t (HasFront entries xs) (HasFront entries (xs ++ ys)) (front_first entries) (h entries clean)) so

  module _ (a b c : Told) (left : BothTold a b (LeavesFront xs)) (kept : BothTold a b (KeepsAll xs)) where
    abbrev Both : State → State → Type 0
    Both s t = LeavesFront xs s t × KeepsAll xs s t

    both : BothTold a b Both
    both = both_with a b (LeavesFront xs) (KeepsAll xs) Both (λ s t p q. (p, q)) left kept

    left_step : (s t v : State) → Both s t → LeavesFront ys t v → LeavesFront (xs ++ ys) s v
    left_step s t v one two entries clean =
        run_on s t v (HasFront entries (xs ++ ys))
        (weaken s t (HasFront entries xs) (HasFront entries (xs ++ ys)) (front_first entries) (one.0 entries clean))
        (weaken t v (HasFront (entries ++ xs) ys) (HasFront entries (xs ++ ys)) (front_then entries)
        (two (entries ++ xs) (one.1 entries clean).0))

    pub left_more : BothTold b c (LeavesFront ys) → BothTold a c (LeavesFront (xs ++ ys))
    left_more more = both_then a b c Both (LeavesFront ys) (LeavesFront (xs ++ ys)) left_step both more

    kept_step : (s t v : State) → Both s t → KeepsAll ys t v → KeepsAll (xs ++ ys) s v
    kept_step s t v one two entries clean =
        let more = two (entries ++ xs) (one.1 entries clean).0 in
        let same : (entries ++ xs) ++ ys ≡ entries ++ (xs ++ ys) = append_assoc entries xs ys in (
          subst (IsClean v.reads) same more.0,
          λ d now. subst (IsClean d) same (more.1 d now),
        )

    pub kept_more : BothTold b c (KeepsAll ys) → BothTold a c (KeepsAll (xs ++ ys))
    kept_more more = both_then a b c Both (KeepsAll ys) (KeepsAll (xs ++ ys)) kept_step both more
