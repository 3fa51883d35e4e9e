-- The runs of a list of inputs: ticks in a row with equal inputs, as many as there are (own).
use Rattle.std.specs.Prelude.{◌≡◌, ℕ, suc, ◌+◌, ◌-◌, ◌<◌, ◌≤◌, ◌⊎◌, List, length, slice_get}
use Rattle.lift_model.specs.Records.{InputData}

-- both ticks have an input, and the inputs are equal
abbrev pub AreEqual : List InputData → ℕ → ℕ → Type 0
AreEqual inputs m n = slice_get inputs (m - 1) ≡ slice_get inputs (n - 1)

-- m is the last tick up to which the inputs from tick n on are equal
pub record IsRunEnd (inputs : List InputData) (n m : ℕ) : Type 0 where
  pub from : n ≤ m
  pub to : m ≤ length inputs
  pub equal : (k : ℕ) → n ≤ k → k ≤ m → AreEqual inputs k n
  pub greatest : m < length inputs → ¬ AreEqual inputs (m + 1) m

-- tick n is the first, or has another input than the tick before it
abbrev pub Starts : List InputData → ℕ → Type 0
Starts inputs n = (n ≡ 1) ⊎ (¬ AreEqual inputs n (n - 1))

-- so many of the ticks start a run: `upto n` counts those of the first n
pub record AreRuns (inputs : List InputData) (count : ℕ) : Type 0 where
  pub upto : ℕ → ℕ
  pub none : upto 0 ≡ 0
  pub starts : (n : ℕ) → n < length inputs → Starts inputs (suc n) → upto (suc n) ≡ upto n + 1
  pub goes_on : (n : ℕ) → n < length inputs → ¬ Starts inputs (suc n) → upto (suc n) ≡ upto n
  pub all : count ≡ upto (length inputs)
