-- What is given, tick by tick.
use Rattle.std.proofs.Common.{◌≡◌, ◌<◌, ◌≤◌, ℕ, zero, suc, ◌+◌, ◌-◌, List, [], ◌∷◌, ◌++◌, length, take, drop, get_or, refl, sym, ap, ◌∙◌, arith, append_assoc, Bool, true, false}
use Rattle.std.specs.Prelude.{◌&&◌, ◌||◌}
use Rattle.std.proofs.lemmas.List.{append-nil, at_drop_more, at_drop_all}
use Rattle.lift_model.specs.Levelling.{has_moved, may_level}
use Rattle.lift_model.specs.Records.{Settings, InputData}
use Rattle.core_model.specs.Settling.{Settled, no_settled}
use Rattle.core_model.specs.Supplies.{GivenData, nothing_given, gated, given_at, supplies_from, supplies_of}
use Rattle.level_guard.specs.Given.{GivenSoFar}

-- one for each tick
from-length : (config : Settings) (trace : List InputData) (t : ℕ) (path : List Settled)
    → length (supplies_from config trace t path) ≡ length path
from-length config trace t [] = refl
from-length config trace t (s ∷ path) = ap suc (from-length config trace (t + 1) path)

pub supplies-length : (config : Settings) (trace : List InputData) (path : List Settled)
    → length (supplies_of config trace path) ≡ length path
unfolding supplies_of
supplies-length config trace path = from-length config trace 1 path

from-at : (config : Settings) (trace : List InputData) (t n : ℕ) (path : List Settled) → n < length path
    → get_or (supplies_from config trace t path) n nothing_given ≡ given_at config trace (t + n) (get_or path n no_settled)
from-at config trace t n [] lt = absurd (omega arith)
from-at config trace t zero (s ∷ path) lt = let e : t + 0 ≡ t = omega arith in rw e refl
from-at config trace t (suc n) (s ∷ path) lt =
    let e : t + 1 + n ≡ t + suc n = omega arith in from-at config trace (t + 1) n path (omega arith) ∙ (rw e refl)

-- what is given at the tick after so many
pub supplies-at : (config : Settings) (trace : List InputData) (path : List Settled) (n : ℕ) → n < length path
    → get_or (supplies_of config trace path) n nothing_given ≡ given_at config trace (n + 1) (get_or path n no_settled)
unfolding supplies_of
supplies-at config trace path n lt =
    let e : 1 + n ≡ n + 1 = omega arith in
    from-at config trace 1 n path lt ∙ ap (λ t. given_at config trace t (get_or path n no_settled)) e

pub none_given : (config : Settings) (trace : List InputData) (path : List Settled) → GivenSoFar config trace path 0 []
unfolding supplies_of
none_given config trace path = record { all = refl }

pub one_given : (config : Settings) (trace : List InputData) (path : List Settled) (before : ℕ) (given : List GivenData) (g : GivenData)
    → before < length path → g ≡ given_at config trace (before + 1) (get_or path before no_settled)
    → GivenSoFar config trace path before given → GivenSoFar config trace path (before + 1) (given ++ g ∷ [])
one_given config trace path before given g lt is so = record {
  all = append_assoc given (g ∷ []) (supplies_from config trace (before + 1 + 1) (drop (before + 1) path))
      ∙ ap (λ (x : GivenData). given ++ x ∷ supplies_from config trace (before + 1 + 1) (drop (before + 1) path)) is
      ∙ ap (λ (rest : List GivenData). given ++ rest) (sym (at_drop_more (supplies_from config trace
      (before + 1)) path before no_settled lt))
      ∙ so.all;
}

pub all_given : (config : Settings) (trace : List InputData) (path : List Settled) (before : ℕ) (given : List GivenData)
    → length path ≤ before → GivenSoFar config trace path before given → given ≡ supplies_of config trace path
all_given config trace path before given past so =
    sym (append-nil given) ∙ ap (λ (rest : List GivenData). given ++ rest)
    (sym (at_drop_all (supplies_from config trace (before + 1)) path before past)) ∙ so.all

-- two guards that say the same say it together
pub and_same : (x : Bool) → (x && x) ≡ x
and_same true = refl
and_same false = refl

pub or_same : (x : Bool) → (x || x) ≡ x
or_same true = refl
or_same false = refl

-- what the guards say after so many ticks is what the gate gives at the next
pub gate-next : (config : Settings) (trace : List InputData) (before : ℕ) (s : Settled) (level moved : Bool)
    → level ≡ may_level config (take before trace) → moved ≡ has_moved config (take before trace)
    → gated s level moved ≡ given_at config trace (before + 1) s
gate-next config trace before s level moved is_level is_moved =
    let at : before + 1 - 1 ≡ before = omega arith in rw (at, is_level, is_moved) refl
