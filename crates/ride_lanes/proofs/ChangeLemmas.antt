-- The runs of a column begin at its changes.
use Rattle.std.proofs.Common.{◌≡◌, ℕ, zero, suc, ◌+◌, ◌-◌, ◌<◌, List, [], ◌∷◌, ◌++◌, map, replicate, refl, sym, ap, ◌∙◌, subst, arith, inl, inr}
use Rattle.ride_lanes.specs.declared.bars.Bar.{Bar}
use Rattle.ride_lanes.specs.declared.cells.Cell.{Cell}
use Rattle.ride_lanes.specs.Runs.{AreChanges, AreChangesAfter, AreRuns, BeginsWith, start_of}
use Rattle.ride_lanes.proofs.RunLemmas.{no_ticks}

-- ticks that show the same have no change
same_ticks : (x : Cell) (rest : List Cell) (changes : List (ℕ × Cell)) (n t : ℕ) → AreChangesAfter x (t + n) rest changes
    → AreChangesAfter x t (replicate n x ++ rest) changes
same_ticks x rest changes zero t h =
    let e : t + 0 ≡ t = omega arith in subst (λ (k : ℕ). AreChangesAfter x k rest changes) e h
same_ticks x rest changes (suc n) t h = inl (
  refl,
  same_ticks x rest changes n (t + 1) (let e : t + suc n ≡ t + 1 + n = omega arith in
      subst (λ (k : ℕ). AreChangesAfter x k rest changes) e h),
)

-- the first tick of a bar, and what is left
front : (n : ℕ) (x y : Cell) (ys rest : List Cell) → 0 < n → y ∷ ys ≡ replicate n x ++ rest
    → (y ≡ x) × (ys ≡ replicate (n - 1) x ++ rest)
front zero x y ys rest some whole = absurd (omega arith)
front (suc n) x y ys rest some whole =
    let e : suc n - 1 ≡ n = omega arith in
    let first : y ≡ x = cc in
    let left : ys ≡ replicate n x ++ rest = cc in
    (first, left ∙ ap (λ (k : ℕ). replicate k x ++ rest) (sym e))

no_bars : (y : Cell) (ys : List Cell) → y ∷ ys ≡ [] → ⊥
no_bars y ys e = cc

pub after_bar : (x : Cell) (t : ℕ) (rest : List Cell) (bars : List Bar) → ¬ BeginsWith x rest → AreRuns t rest bars
    → AreChangesAfter x t rest (map start_of bars)
after_bar x t [] [] ends h = refl
after_bar x t [] (bar ∷ bars) ends h = absurd (no_ticks t bar bars h)
after_bar x t (y ∷ ys) [] ends h = absurd (no_bars y ys h)
after_bar x t (y ∷ ys) (bar ∷ bars) ends h =
    let is = front bar.ticks bar.cell y ys h.0 h.1.some h.1.whole in
    let next : t + bar.ticks ≡ t + 1 + (bar.ticks - 1) = omega (arith, h.1.some) in
    let later : AreChangesAfter bar.cell (t + 1) ys (map start_of bars) =
    subst (λ (zs : List _). AreChangesAfter bar.cell (t + 1) zs (map start_of bars)) (sym is.1)
    (same_ticks bar.cell h.0 (map start_of bars) (bar.ticks - 1) (t + 1)
    (subst (λ (k : ℕ). AreChangesAfter bar.cell k h.0 (map start_of bars)) next
    (after_bar bar.cell (t + bar.ticks) h.0 bars h.1.ends h.2))) in
    inr (ends, (map start_of bars, cc (is.0, h.1.first), subst (λ z. AreChangesAfter z (t + 1) ys (map start_of bars)) (sym is.0) later))

pub from_runs : (column : List Cell) (bars : List Bar) → AreRuns 1 column bars → AreChanges column (map start_of bars)
from_runs [] [] h = refl
from_runs [] (bar ∷ bars) h = absurd (no_ticks 1 bar bars h)
from_runs (y ∷ ys) [] h = absurd (no_bars y ys h)
from_runs (y ∷ ys) (bar ∷ bars) h =
    let is = front bar.ticks bar.cell y ys h.0 h.1.some h.1.whole in
    let next : 1 + bar.ticks ≡ 2 + (bar.ticks - 1) = omega (arith, h.1.some) in
    let later : AreChangesAfter bar.cell 2 ys (map start_of bars) =
    subst (λ (zs : List _). AreChangesAfter bar.cell 2 zs (map start_of bars)) (sym is.1)
    (same_ticks bar.cell h.0 (map start_of bars) (bar.ticks - 1) 2
    (subst (λ (k : ℕ). AreChangesAfter bar.cell k h.0 (map start_of bars)) next
    (after_bar bar.cell (1 + bar.ticks) h.0 bars h.1.ends h.2))) in
    (map start_of bars, cc (is.0, h.1.first), subst (λ z. AreChangesAfter z 2 ys (map start_of bars)) (sym is.0) later)
