-- One tick more for what a trace keeps.
use Rattle.std.proofs.Common.{◌≡◌, ℕ, suc, ◌+◌, ◌-◌, ◌<◌, List, [], ◌∷◌, ◌++◌, length, get_or, refl, sym, ap, ◌∙◌, arith, inl, inr}
use Rattle.std.proofs.lemmas.Bool.{cases_lt}
use Rattle.std.proofs.lemmas.List.{length_push, map_push, get_or_push, get_or_append_left}
use Rattle.lift_trace.specs.declared.trace.Run.{Run}
use Rattle.lift_trace.specs.Kept.{no_run, input_of, first_of, inputs_of, IsOf, AreKept}

number-old : (run_of : List ℕ) (k i : ℕ) → i < length run_of → get_or (run_of ++ k ∷ []) i 0 ≡ get_or run_of i 0
number-old run_of k i h = get_or_append_left run_of (k ∷ []) 0 i h

number-new : (run_of : List ℕ) (k : ℕ) → get_or (run_of ++ k ∷ []) (length run_of) 0 ≡ k
number-new run_of k = get_or_push run_of k 0 (length run_of) refl

run-old : (runs : List Run) (r : Run) (k : ℕ) → k < length runs → get_or (runs ++ r ∷ []) k no_run ≡ get_or runs k no_run
run-old runs r k h = get_or_append_left runs (r ∷ []) no_run k h

run-new : (runs : List Run) (r : Run) → get_or (runs ++ r ∷ []) (length runs) no_run ≡ r
run-new runs r = get_or_push runs r no_run (length runs) refl

-- the last run has the last tick
pub goes_on-kept : (runs : List Run) (run_of : List ℕ) → AreKept runs run_of → 0 < length runs → AreKept runs (run_of ++ (length runs - 1)
    ∷ [])
goes_on-kept runs run_of kept some =
    let last = length runs - 1 in
    let n = length run_of in
    let more : length (run_of ++ last ∷ []) ≡ n + 1 = omega (arith, length_push run_of last) in
    record {
      few = λ i h. elim (cases_lt i n) [
        | inl old ↦ rw (number-old run_of last i old) (kept.few i old)
        | inr new ↦ (let here : i ≡ n = omega (arith, more) in rw (here, number-new run_of last) (omega arith))
      ];
      of = λ i h. elim (cases_lt i n) [
        | inl old ↦ rw (number-old run_of last i old) (kept.of i old)
        | inr new ↦ (let here : i ≡ n = omega (arith, more) in rw (here, number-new run_of last) (record {
          from = omega (arith, kept.to last (omega arith));
          to = λ l. absurd (omega arith);
        }))
      ];
      only = λ i k h l is. elim (cases_lt i n) [
        | inl old ↦ number-old run_of last i old ∙ kept.only i k old l is
        | inr new ↦ (let here : i ≡ n = omega (arith, more) in rw (here, number-new run_of last) (elim (cases_lt (k + 1) (length runs)) [
          | inl next ↦ absurd (omega (arith, is.to next, kept.to (k + 1) next, here))
          | inr end ↦ omega arith
        ]))
      ];
      from = kept.from;
      to = λ k l. omega (arith, kept.to k l, more);
      start = λ k l. number-old run_of last (first_of runs k - 1) (omega (arith, kept.from k l, kept.to k l)) ∙ kept.start k l;
      differ = kept.differ;
    }

-- a run more begins with a tick more
pub start-kept : (runs : List Run) (run_of : List ℕ) (r : Run) → AreKept runs run_of → r.first ≡ length run_of + 1
    → (0 < length runs → ¬ (r.input ≡ input_of runs (length runs - 1))) → AreKept (runs ++ r ∷ []) (run_of ++ length runs ∷ [])
start-kept runs run_of r kept first differs =
    let m = length runs in
    let n = length run_of in
    let later = runs ++ r ∷ [] in
    let more : length (run_of ++ m ∷ []) ≡ n + 1 = omega (arith, length_push run_of m) in
    let runs_more : length later ≡ m + 1 = omega (arith, length_push runs r) in
    let old_first : (k : ℕ) → k < m → first_of later k ≡ first_of runs k = λ k l. ap (λ (x : Run). x.first) (run-old runs r k l) in
    let new_first : first_of later m ≡ n + 1 = ap (λ (x : Run). x.first) (run-new runs r) ∙ first in
    let old_input : (k : ℕ) → k < m → input_of later k ≡ input_of runs k = λ k l. ap (λ (x : Run). x.input) (run-old runs r k l) in
    let new_input : input_of later m ≡ r.input = ap (λ (x : Run). x.input) (run-new runs r) in
    let is_of : (i k : ℕ) → i < n → k < m → IsOf runs i k → IsOf later i k = λ i k h l is. record {
      from = omega (arith, old_first k l, is.from);
      to = λ next. elim (cases_lt (k + 1) m) [
        | inl old ↦ omega (arith, old_first (k + 1) old, is.to old)
        | inr new ↦ (let here : k + 1 ≡ m = omega (arith, l) in rw here (omega (arith, new_first, h)))
      ];
    } in
    let was_of : (i k : ℕ) → k < m → IsOf later i k → IsOf runs i k = λ i k l is. record {
      from = omega (arith, old_first k l, is.from);
      to = λ next. omega (arith, old_first (k + 1) next, is.to (omega (arith, next, runs_more)));
    } in
    record {
      few = λ i h. elim (cases_lt i n) [
        | inl old ↦ rw (number-old run_of m i old) (omega (arith, kept.few i old, runs_more))
        | inr new ↦ (let here : i ≡ n = omega (arith, more) in rw (here, number-new run_of m) (omega (arith, runs_more)))
      ];
      of = λ i h. elim (cases_lt i n) [
        | inl old ↦ rw (number-old run_of m i old) (is_of i (get_or run_of i 0) old (kept.few i old) (kept.of i old))
        | inr new ↦ (let here : i ≡ n = omega (arith, more) in rw (here, number-new run_of m) (record {
          from = omega (arith, new_first);
          to = λ l. absurd (omega (arith, runs_more));
        }))
      ];
      only = λ i k h l is. elim (cases_lt i n) [
        | inl old ↦ elim (cases_lt k m) [
          | inl was ↦ number-old run_of m i old ∙ kept.only i k old was (was_of i k was is)
          | inr now ↦ (let here : k ≡ m = omega (arith, runs_more) in
              absurd (omega (arith, old, is.from, ap (first_of later) here, new_first)))
        ]
        | inr new ↦ (let here : i ≡ n = omega (arith, more) in rw (here, number-new run_of m) (elim (cases_lt k m) [
          | inl was ↦ elim (cases_lt (k + 1) m) [
            | inl next ↦ absurd (omega (arith, is.to (omega (arith, runs_more)), old_first (k + 1) next, kept.to (k + 1) next, here))
            | inr end ↦ (let there : k + 1 ≡ m = omega (arith, was) in
                absurd (omega (arith, is.to (omega (arith, runs_more)), ap (first_of later) there, new_first, here)))
          ]
          | inr now ↦ omega (arith, runs_more)
        ]))
      ];
      from = λ k l. elim (cases_lt k m) [
        | inl old ↦ omega (arith, old_first k old, kept.from k old)
        | inr new ↦ (let here : k ≡ m = omega (arith, runs_more) in rw here (omega (arith, new_first)))
      ];
      to = λ k l. elim (cases_lt k m) [
        | inl old ↦ omega (arith, old_first k old, kept.to k old, more)
        | inr new ↦ (let here : k ≡ m = omega (arith, runs_more) in rw here (omega (arith, new_first, more)))
      ];
      start = λ k l. elim (cases_lt k m) [
        | inl old ↦ rw (old_first k old) (number-old run_of m (first_of runs k - 1) (omega (arith, kept.from k old, kept.to k old))
            ∙ kept.start k old)
        | inr new ↦ (let here : k ≡ m = omega (arith, runs_more) in
            let at : first_of later m - 1 ≡ n = omega (arith, new_first) in
            rw (here, at) (number-new run_of m))
      ];
      differ = λ k l. elim (cases_lt (k + 1) m) [
        | inl old ↦ (λ same. kept.differ k old (sym (old_input (k + 1) old) ∙ same ∙ old_input k (omega arith)))
        | inr new ↦ (let here : k + 1 ≡ m = omega (arith, runs_more) in
            let before : k ≡ m - 1 = omega (arith, here) in
            λ same. differs (omega (arith, here))
            (sym new_input ∙ ap (input_of later) (sym here) ∙ same ∙ old_input k (omega (arith, here)) ∙ ap (input_of runs) before))
      ];
    }

-- the inputs, one tick more of the last run
pub goes_on-inputs : (runs : List Run) (run_of : List ℕ) (k : ℕ)
    → inputs_of runs (run_of ++ k ∷ []) ≡ inputs_of runs run_of ++ input_of runs k ∷ []
goes_on-inputs runs run_of k = map_push (input_of runs) run_of k

same_runs : (runs : List Run) (r : Run) (run_of : List ℕ) → ((i : ℕ) → i < length run_of → get_or run_of i 0 < length runs)
    → inputs_of (runs ++ r ∷ []) run_of ≡ inputs_of runs run_of
same_runs runs r [] few = refl
same_runs runs r (k ∷ run_of) few =
    rw (ap (λ (x : Run). x.input) (run-old runs r k (few 0 (omega arith))), same_runs runs r run_of (λ i h. few (suc i) (omega arith))) refl

-- and one tick of a run more
pub start-inputs : (runs : List Run) (run_of : List ℕ) (r : Run) → AreKept runs run_of
    → inputs_of (runs ++ r ∷ []) (run_of ++ length runs ∷ []) ≡ inputs_of runs run_of ++ r.input ∷ []
start-inputs runs run_of r kept =
    goes_on-inputs (runs ++ r ∷ []) run_of (length runs)
    ∙ (rw (same_runs runs r run_of kept.few, ap (λ (x : Run). x.input) (run-new runs r)) refl)

-- nothing is kept of no tick
pub none-kept : AreKept [] []
none-kept = record {
  few = λ i h. absurd (omega arith);
  of = λ i h. absurd (omega arith);
  only = λ i k h. absurd (omega arith);
  from = λ k l. absurd (omega arith);
  to = λ k l. absurd (omega arith);
  start = λ k l. absurd (omega arith);
  differ = λ k l. absurd (omega arith);
}

-- there is a run where there is a tick, and the last tick is of the last run
pub last_run : (runs : List Run) (run_of : List ℕ) → AreKept runs run_of → 0 < length run_of
    → get_or run_of (length run_of - 1) 0 ≡ length runs - 1
last_run runs run_of kept some =
    let m = length runs - 1 in
    let runs_some : 0 < length runs = omega (arith, kept.few 0 some) in
    kept.only (length run_of - 1) m (omega (arith, some)) (omega (arith, runs_some)) (record {
      from = omega (arith, kept.to m (omega (arith, runs_some)));
      to = λ l. absurd (omega arith);
    })

pub some_ticks : (runs : List Run) (run_of : List ℕ) → AreKept runs run_of → 0 < length runs → 0 < length run_of
some_ticks runs run_of kept some = omega (arith, kept.from 0 some, kept.to 0 some)

pub some_runs : (runs : List Run) (run_of : List ℕ) → AreKept runs run_of → 0 < length run_of → 0 < length runs
some_runs runs run_of kept some = omega (arith, kept.few 0 some)
