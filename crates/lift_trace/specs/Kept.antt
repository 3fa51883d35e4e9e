-- How a trace keeps its runs: each has a number from 0, its input and its first tick, and each tick has the number of its run.
use Rattle.std.specs.Prelude.{◌≡◌, ℕ, ◌+◌, ◌-◌, ◌<◌, ◌≤◌, false, List, [], map, length, get_or, None}
use Rattle.lift_model.specs.Enums.{Keep}
use Rattle.lift_model.specs.Records.{InputData, SideFaultData}
use Rattle.lift_trace.specs.declared.trace.Run.{Run}

abbrev pub no_faults : SideFaultData
no_faults = record {
  fail = false;
  hold = false;
  exchange = false;
  publish = None;
  command = None;
  contactor = Keep;
  dismiss = false;
  give = None;
}

abbrev pub no_run : Run
no_run = record {
  input = record { frames = []; words = record { a = 0; b = 0 }; truth = []; faults = record { a = no_faults; b = no_faults } };
  first = 0;
}

abbrev pub input_of : List Run → ℕ → InputData
input_of runs k = (get_or runs k no_run).input

abbrev pub first_of : List Run → ℕ → ℕ
first_of runs k = (get_or runs k no_run).first

-- the inputs, tick by tick
abbrev pub inputs_of : List Run → List ℕ → List InputData
inputs_of runs run_of = map (input_of runs) run_of

-- tick i + 1 is of run k: it is none before its first, and comes before the first of the next run
pub record IsOf (runs : List Run) (i k : ℕ) : Type 0 where
  pub from : first_of runs k ≤ i + 1
  pub to : k + 1 < length runs → i + 1 < first_of runs (k + 1)

-- each tick is of its run and of no other, each run has its first tick, and neighbours differ
pub record AreKept (runs : List Run) (run_of : List ℕ) : Type 0 where
  pub few : (i : ℕ) → i < length run_of → get_or run_of i 0 < length runs
  pub of : (i : ℕ) → i < length run_of → IsOf runs i (get_or run_of i 0)
  pub only : (i k : ℕ) → i < length run_of → k < length runs → IsOf runs i k → get_or run_of i 0 ≡ k
  pub from : (k : ℕ) → k < length runs → 1 ≤ first_of runs k
  pub to : (k : ℕ) → k < length runs → first_of runs k ≤ length run_of
  pub start : (k : ℕ) → k < length runs → get_or run_of (first_of runs k - 1) 0 ≡ k
  pub differ : (k : ℕ) → k + 1 < length runs → ¬ (input_of runs (k + 1) ≡ input_of runs k)
