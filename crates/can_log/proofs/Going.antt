-- What lies ahead, one tick on.
use Rattle.std.proofs.Common.{ℕ, suc, ◌≡◌, ◌<◌, ◌≤◌, ◌+◌, ◌==◌, nat_le, Bool, true, false, List, [], ◌∷◌, ◌++◌, length, drop, refl, sym, ap, ◌∙◌, subst, arith, rules}
use Rattle.std.specs.List.{AllByRecursion}
use Rattle.std.proofs.lemmas.Grind.{common_steps}
use Rattle.lift_model.specs.Records.{FrameData, WireWords}
use Rattle.can_log.specs.declared.log.Taken.{Taken}
use Rattle.can_log.specs.declared.wires.WireRow.{WireRow}
use Rattle.can_log.specs.Taken.{LogData, tick_at, frames_in}
use Rattle.can_log.specs.Kept.{IsSorted}
use Rattle.can_log.specs.Scripts.{words_in, words_at, input_at, inputs_to}
use Rattle.can_log.specs.Ahead.{front, rows_behind, IsAhead}
use Rattle.can_log.proofs.Logs.{Within, is_other}

abbrev Past : ℕ → Taken → Type 0
Past n t = n < t.tick

-- where all are later, none is of the tick
none_of : (n m : ℕ) (ts : List Taken) → AllByRecursion (Past m) ts → n ≤ m → frames_in n ts ≡ []
none_of n m [] all before = refl
none_of n m (t ∷ ts) (one, all) before =
    let other : t.tick ≡ n → ⊥ = λ e. absurd (omega (arith, one, e)) in
    rw (is_other t.tick n other) (none_of n m ts all before)

all_past : (m n : ℕ) (ts : List Taken) → m < n → AllByRecursion (λ u. n ≤ u.tick) ts → AllByRecursion (Past m) ts
all_past m n [] later all = tt
all_past m n (t ∷ ts) later (one, all) = (omega (arith, one), all_past m n ts later all)

-- those in front are those of the next tick, and what is behind them is ahead of the ticks after it
pub record Fronts (n : ℕ) (ts : List Taken) : Type 0 where
  pub all_of : front n ts ≡ frames_in n ts
  pub within : length (front n ts) ≤ length ts
  pub same : (m : ℕ) → n < m → frames_in m ts ≡ frames_in m (drop (length (front n ts)) ts)
  pub sorted : IsSorted (drop (length (front n ts)) ts)
  pub above : AllByRecursion (Past n) (drop (length (front n ts)) ts)

front_by : (n : ℕ) (t : Taken) (ts : List Taken) (test : Bool) → (t.tick == n) ≡ test → IsSorted (t ∷ ts) → n ≤ t.tick
    → Fronts n ts → Fronts n (t ∷ ts)
front_by n t ts true is sorted from rest =
    let at : t.tick ≡ n = grind (arith, common_steps) in
    let fronts : front n (t ∷ ts) ≡ t.frame ∷ front n ts = rw is refl in
    let P : List FrameData → Type 0 = λ fs. (fs ≡ frames_in n (t ∷ ts)) × (length fs ≤ length (t ∷ ts))
    × ((m : ℕ) → n < m → frames_in m (t ∷ ts) ≡ frames_in m (drop (length fs) (t ∷ ts)))
    × IsSorted (drop (length fs) (t ∷ ts)) × AllByRecursion (Past n) (drop (length fs) (t ∷ ts)) in
    let all = subst P (sym fronts) (
      rw (is) (ap (λ fs. t.frame ∷ fs) rest.all_of),
      omega (arith, rest.within),
      (λ m later. let other : t.tick ≡ m → ⊥ = λ e. absurd (omega (arith, at, e)) in rw (is_other t.tick m other) (rest.same m later)),
      rest.sorted,
      rest.above,
    ) in
    record { all_of = all.0; within = all.1; same = all.2; sorted = all.3; above = all.4 }
front_by n t ts false is sorted from rest =
    let later : n < t.tick = let other : t.tick ≡ n → ⊥ = λ e. grind (arith, common_steps) in omega (arith, other, from) in
    let fronts : front n (t ∷ ts) ≡ [] = rw is refl in
    let past = all_past n t.tick ts later sorted.0 in
    let P : List FrameData → Type 0 = λ fs. (fs ≡ frames_in n (t ∷ ts)) × (length fs ≤ length (t ∷ ts))
    × ((m : ℕ) → n < m → frames_in m (t ∷ ts) ≡ frames_in m (drop (length fs) (t ∷ ts)))
    × IsSorted (drop (length fs) (t ∷ ts)) × AllByRecursion (Past n) (drop (length fs) (t ∷ ts)) in
    let all = subst P (sym fronts) (
      sym (none_of n n (t ∷ ts) (later, past) (omega arith)),
      omega arith,
      (λ m _. refl),
      sorted,
      (later, past),
    ) in
    record { all_of = all.0; within = all.1; same = all.2; sorted = all.3; above = all.4 }

pub fronts_of : (n : ℕ) (ts : List Taken) → IsSorted ts → AllByRecursion (λ u. n ≤ u.tick) ts → Fronts n ts
fronts_of n [] sorted from = record { all_of = refl; within = omega arith; same = λ m later. refl; sorted = tt; above = tt }
fronts_of n (t ∷ ts) sorted (one, from) = front_by n t ts (t.tick == n) refl sorted one (fronts_of n ts sorted.1 from)

from_above : (n : ℕ) (ts : List Taken) → AllByRecursion (Past n) ts → AllByRecursion (λ u. n + 1 ≤ u.tick) ts
from_above n [] all = tt
from_above n (t ∷ ts) (one, all) = (omega (arith, one), from_above n ts all)

pub next_fronts : (n : ℕ) (all ahead : List Taken) → IsAhead n all ahead → Fronts (n + 1) ahead
next_fronts n all ahead is = fronts_of (n + 1) ahead is.sorted (from_above n ahead is.above)

-- the frames of the next tick
pub front_is : (n : ℕ) (all ahead : List Taken) → IsAhead n all ahead → front (n + 1) ahead ≡ frames_in (n + 1) all
front_is n all ahead is = (next_fronts n all ahead is).all_of ∙ sym (is.same (n + 1) (omega arith))

pub one_on : (n : ℕ) (all ahead : List Taken) → IsAhead n all ahead
    → IsAhead (n + 1) all (drop (length (front (n + 1) ahead)) ahead)
one_on n all ahead is =
    let f = next_fronts n all ahead is in
    record {
      same = λ m later. is.same m (omega (arith, later)) ∙ f.same m later;
      sorted = f.sorted;
      above = f.above;
    }

-- all are ahead of the first tick
within_past : (n : ℕ) (ts : List Taken) → AllByRecursion (Within n) ts → AllByRecursion (Past 0) ts
within_past n [] all = tt
within_past n (t ∷ ts) (one, all) = (omega (arith, one.0), within_past n ts all)

pub all_ahead : (n : ℕ) (ts ahead : List Taken) → ahead ≡ ts → IsSorted ts → AllByRecursion (Within n) ts → IsAhead 0 ts ahead
all_ahead n ts ahead same sorted from =
    subst (IsAhead 0 ts) (sym same) (record { same = λ m later. refl; sorted = sorted; above = within_past n ts from })

-- ---- the wires

-- the words of a later tick follow from the rows behind those of an earlier one
rows_by : (first tick n m : ℕ) (before : WireWords) (r : WireRow) (rows : List WireRow) (test : Bool)
    → nat_le (tick_at first tick r.time) n ≡ test → n ≤ m
    → (words_at first tick m (words_in r) rows ≡ words_at first tick m (words_at first tick n (words_in r) rows) (rows_behind first
    tick n rows))
    → words_at first tick m before (r ∷ rows)
    ≡ words_at first tick m (words_at first tick n before (r ∷ rows)) (rows_behind first tick n (r ∷ rows))
rows_by first tick n m before r rows true is later rest =
    let up : tick_at first tick r.time ≤ n = grind (arith, common_steps) in
    let also : nat_le (tick_at first tick r.time) m ≡ true = let h : tick_at first tick r.time ≤ m = omega (arith, up, later) in search
    rules in
    rw (is, also) rest
rows_by first tick n m before r rows false is later rest = rw is refl

pub words_on : (first tick n m : ℕ) (before : WireWords) (rows : List WireRow) → n ≤ m
    → words_at first tick m before rows ≡ words_at first tick m (words_at first tick n before rows) (rows_behind first tick n rows)
words_on first tick n m before [] later = refl
words_on first tick n m before (r ∷ rows) later =
    rows_by first tick n m before r rows (nat_le (tick_at first tick r.time) n) refl later (words_on first tick n m (words_in r) rows later)

-- no row behind those of a tick is of it
rows_end_by : (first tick n : ℕ) (before : WireWords) (r : WireRow) (rows : List WireRow) (test : Bool)
    → nat_le (tick_at first tick r.time) n ≡ test
    → words_at first tick n before (rows_behind first tick n rows) ≡ before
    → words_at first tick n before (rows_behind first tick n (r ∷ rows)) ≡ before
rows_end_by first tick n before r rows true is rest = rw is rest
rows_end_by first tick n before r rows false is rest = rw (is, is) refl

pub rows_end : (first tick n : ℕ) (before : WireWords) (rows : List WireRow)
    → words_at first tick n before (rows_behind first tick n rows) ≡ before
rows_end first tick n before [] = refl
rows_end first tick n before (r ∷ rows) =
    rows_end_by first tick n before r rows (nat_le (tick_at first tick r.time) n) refl (rows_end first tick n before rows)

-- ---- the inputs

pub none_yet : (log : LogData) (rows : List WireRow) → inputs_to log rows 0 ≡ []
unfolding inputs_to
none_yet log rows = refl

pub one_more : (log : LogData) (rows : List WireRow) (n : ℕ)
    → inputs_to log rows (n + 1) ≡ inputs_to log rows n ++ input_at log rows (n + 1) ∷ []
unfolding inputs_to
one_more log rows n =
    let e : suc n ≡ n + 1 = omega arith in
    subst (λ k. inputs_to log rows k ≡ inputs_to log rows n ++ input_at log rows k ∷ []) e refl
