-- One tick more for the runs of a column.
use Rattle.std.proofs.Common.{◌≡◌, ℕ, ◌+◌, List, [], ◌∷◌, ◌++◌, length, replicate, refl, sym, ap, ◌∙◌, subst, append_assoc, arith}
use Rattle.std.proofs.lemmas.List.{append-nil, replicate_more, length-append, length-replicate}
use Rattle.ride_lanes.specs.declared.bars.Bar.{Bar}
use Rattle.ride_lanes.specs.declared.cells.Cell.{Cell}
use Rattle.std.proofs.lemmas.List.Sums.{sum_by-cons}
use Rattle.std.specs.List.{sum_by}
use Rattle.ride_lanes.specs.Runs.{AreRuns, BeginsWith, ticks_of}

-- a column of no ticks has no bar
pub no_ticks : (t : ℕ) (bar : Bar) (bars : List Bar) → AreRuns t [] (bar ∷ bars) → ⊥
no_ticks t bar bars h = omega (
  arith,
  h.1.some,
  ap length h.1.whole,
  length-append (replicate bar.ticks bar.cell) h.0,
  length-replicate bar.ticks bar.cell,
)

-- what has a last bar has ticks
some_ticks : (t : ℕ) (column : List Cell) (bars : List Bar) (last : Bar) → AreRuns t column (bars ++ last ∷ [])
    → column ≡ [] → ⊥
some_ticks t column [] last h e = no_ticks t last [] (subst (λ xs. AreRuns t xs (last ∷ [])) e h)
some_ticks t column (bar ∷ bars) last h e =
    no_ticks t bar (bars ++ last ∷ []) (subst (λ xs. AreRuns t xs (bar ∷ (bars ++ last ∷ []))) e h)

-- what has ticks begins as it did before
begins_before : (x : Cell) (rest more : List Cell) → (rest ≡ [] → ⊥) → BeginsWith x (rest ++ more) → BeginsWith x rest
begins_before x [] more some h = absurd (some refl)
begins_before x (y ∷ rest) more some h = h

-- the ticks of a bar, then no rest, and one tick more
one_more : (column rest : List Cell) (n : ℕ) (x : Cell) → column ≡ replicate n x ++ rest → rest ≡ []
    → column ++ x ∷ [] ≡ replicate (n + 1) x ++ []
one_more column rest n x whole none =
    ap (λ xs. xs ++ x ∷ []) (whole ∙ (ap (λ ys. replicate n x ++ ys) none ∙ append-nil (replicate n x)))
    ∙ (replicate_more n x ∙ sym (append-nil (replicate (n + 1) x)))

then_more : (column front rest : List Cell) (x : Cell) → column ≡ front ++ rest → column ++ x ∷ [] ≡ front ++ (rest ++ x ∷ [])
then_more column front rest x whole = ap (λ xs. xs ++ x ∷ []) whole ∙ append_assoc front rest (x ∷ [])

-- the last run goes on
pub goes_on : (t : ℕ) (column : List Cell) (bars : List Bar) (last : Bar) → AreRuns t column (bars ++ last ∷ [])
    → AreRuns t (column ++ last.cell ∷ []) (bars ++ (record last { ticks = last.ticks + 1 }) ∷ [])
goes_on t column [] last h = (
  [],
  record {
    whole = one_more column h.0 last.ticks last.cell h.1.whole h.2;
    first = h.1.first;
    some = omega arith;
    ends = λ never. never;
  },
  refl,
)
goes_on t column (bar ∷ bars) last h = (
  h.0 ++ last.cell ∷ [],
  record {
    whole = then_more column (replicate bar.ticks bar.cell) h.0 last.cell h.1.whole;
    first = h.1.first;
    some = h.1.some;
    ends = λ begins. h.1.ends (begins_before bar.cell h.0 (last.cell ∷ []) (some_ticks (t + bar.ticks) h.0 bars last h.2) begins);
  },
  goes_on (t + bar.ticks) h.0 bars last h.2,
)

-- the bar that begins after this one, with this value
abbrev pub begun : Bar → Cell → Bar
begun last x = record { first = last.first + last.ticks; ticks = 1; cell = x }

-- the last run is a bar, and the next one begins
pub begins : (t : ℕ) (column : List Cell) (bars : List Bar) (last : Bar) (x : Cell) → ¬ (x ≡ last.cell)
    → AreRuns t column (bars ++ last ∷ [])
    → AreRuns t (column ++ x ∷ []) ((bars ++ last ∷ []) ++ begun last x ∷ [])
begins t column [] last x differs h = (
  x ∷ [],
  record {
    whole = ap (λ xs. xs ++ x ∷ []) (h.1.whole ∙ (ap (λ ys. replicate last.ticks last.cell ++ ys) h.2
        ∙ append-nil (replicate last.ticks last.cell)));
    first = h.1.first;
    some = h.1.some;
    ends = differs;
  },
  (
    [],
    record {
      whole = refl;
      first = ap (λ (n : ℕ). n + last.ticks) h.1.first;
      some = omega arith;
      ends = λ never. never;
    },
    refl,
  ),
)
begins t column (bar ∷ bars) last x differs h = (
  h.0 ++ x ∷ [],
  record {
    whole = then_more column (replicate bar.ticks bar.cell) h.0 x h.1.whole;
    first = h.1.first;
    some = h.1.some;
    ends = λ begins'. h.1.ends (begins_before bar.cell h.0 (x ∷ []) (some_ticks (t + bar.ticks) h.0 bars last h.2) begins');
  },
  begins (t + bar.ticks) h.0 bars last x differs h.2,
)

-- one tick alone
pub first_tick : (x : Cell) → AreRuns 1 (x ∷ []) ((record { first = 1; ticks = 1; cell = x }) ∷ [])
first_tick x = ([], record { whole = refl; first = refl; some = omega arith; ends = λ never. never }, refl)

-- both, where the later run and the bars are given by equations
pub longer_run : (column : List Cell) (bars : List Bar) (last later : Bar) (x : Cell) → x ≡ last.cell
    → later ≡ record last { ticks = last.ticks + 1 } → AreRuns 1 column (bars ++ last ∷ [])
    → AreRuns 1 (column ++ x ∷ []) (bars ++ later ∷ [])
longer_run column bars last later x same is h = rw (same, is) (goes_on 1 column bars last h)

pub next_run : (column : List Cell) (bars more : List Bar) (last later : Bar) (x : Cell) → ¬ (x ≡ last.cell)
    → later ≡ begun last x → more ≡ bars ++ last ∷ [] → AreRuns 1 column (bars ++ last ∷ [])
    → AreRuns 1 (column ++ x ∷ []) (more ++ later ∷ [])
next_run column bars more last later x differs is all h = rw (is, all) (begins 1 column bars last x differs h)

-- the bars are as long as the column
pub whole_length : (t : ℕ) (column : List Cell) (bars : List Bar) → AreRuns t column bars → sum_by ticks_of bars ≡ length column
whole_length t column [] h = sym (ap length h)
whole_length t column (bar ∷ bars) h =
    let rest = whole_length (t + bar.ticks) h.0 bars h.2 in
    omega (
      arith,
      rest,
      sum_by-cons ticks_of bar bars,
      ap length h.1.whole,
      length-append (replicate bar.ticks bar.cell) h.0,
      length-replicate bar.ticks bar.cell,
    )
