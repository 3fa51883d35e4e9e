-- A front of the trace tells what the trace tells of its ticks.
use Rattle.std.proofs.Common.{◌≡◌, ℕ, zero, suc, ◌-◌, ◌≤◌, List, length, get_or, take, refl, sym, ap, ◌∙◌, arith}
use Rattle.std.proofs.lemmas.List.{length-take-le, take-take, take-map, get_or-take}
use Rattle.lift_model.specs.Grant.{grant, verdict_at_end}
use Rattle.lift_model.specs.Records.{Settings, InputData}
use Rattle.lift_model.specs.Trace.{words_of}
use Rattle.lift_model.specs.Wires.{words_at, rises, all_off}

pub before_is : (config : Settings) (trace : List InputData) (n : ℕ) → n ≤ length trace
    → verdict_at_end config (take (length (take n trace) - 1) (take n trace)) ≡ grant config trace (n - 1)
before_is config trace n h = rw (length-take-le n trace h) (ap (verdict_at_end config) (take-take (n - 1) n trace (omega arith)))

words_front : (trace : List InputData) (n t : ℕ) → t ≤ n → words_at (words_of (take n trace)) t ≡ words_at (words_of trace) t
words_front trace n zero h = refl
words_front trace n (suc k) h = ap (λ xs. get_or xs k all_off) (sym (take-map (λ input. input.words) n trace))
    ∙ get_or-take n (words_of trace) k all_off (omega arith)

pub rises_front : (trace : List InputData) (i n : ℕ) → n ≤ length trace
    → rises (words_of (take n trace)) i (length (take n trace)) ≡ rises (words_of trace) i n
rises_front trace i zero h = refl
rises_front trace i (suc k) h = rw (
  length-take-le (suc k) trace h,
  words_front trace (suc k) (suc k) (omega arith),
  words_front trace (suc k) k (omega arith),
) refl
