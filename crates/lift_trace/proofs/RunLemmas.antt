-- The runs of the inputs, from what a trace keeps.
use Rattle.std.proofs.Common.{◌≡◌, ℕ, zero, suc, ◌+◌, ◌-◌, ◌<◌, ◌≤◌, ◌⊎◌, List, [], ◌∷◌, length, get_or, slice_get, Some, refl, sym, ap, ◌∙◌, subst, arith, inl, inr}
use Rattle.std.proofs.lemmas.Bool.{cases_lt}
use Rattle.std.proofs.lemmas.List.{length-map}
use Rattle.lift_model.specs.Records.{InputData}
use Rattle.lift_trace.specs.declared.trace.Run.{Run}
use Rattle.lift_trace.specs.Kept.{input_of, first_of, inputs_of, AreKept}
use Rattle.lift_trace.proofs.KeptLemmas.{last_run, some_ticks}
use Rattle.lift_trace.specs.Runs.{IsRunEnd, Starts, AreRuns}

-- the input of a tick is that of its run
pub input_at : (runs : List Run) (run_of : List ℕ) (i : ℕ) → i < length run_of
    → slice_get (inputs_of runs run_of) i ≡ Some (input_of runs (get_or run_of i 0))
input_at runs [] i h = absurd (omega arith)
input_at runs (k ∷ run_of) zero h = refl
input_at runs (k ∷ run_of) (suc i) h = input_at runs run_of i (omega arith)

-- the input of the last tick is that of the last run
pub last_input : (runs : List Run) (run_of : List ℕ) → AreKept runs run_of → 0 < length run_of
    → slice_get (inputs_of runs run_of) (length (inputs_of runs run_of) - 1) ≡ Some (input_of runs (length runs - 1))
last_input runs run_of kept some =
    rw (length-map run_of (input_of runs)) (input_at runs run_of (length run_of - 1) (omega arith)
    ∙ ap (λ k. Some (input_of runs k)) (last_run runs run_of kept some))

-- ticks of one run have equal inputs
equal_in : (runs : List Run) (run_of : List ℕ) (i j : ℕ) → i < length run_of → j < length run_of → get_or run_of i 0 ≡ get_or run_of j 0
    → slice_get (inputs_of runs run_of) i ≡ slice_get (inputs_of runs run_of) j
equal_in runs run_of i j a b same =
    input_at runs run_of i a ∙ ap (λ k. Some (input_of runs k)) same ∙ sym (input_at runs run_of j b)

-- neighbours of one input are of one run
pub some_injective : (x y : InputData) → Some x ≡ Some y → x ≡ y
some_injective x y e = cc

differ_in : (runs : List Run) (run_of : List ℕ) → AreKept runs run_of → (i j : ℕ) → i < length run_of → j < length run_of
    → get_or run_of i 0 ≡ get_or run_of j 0 + 1 → ¬ (slice_get (inputs_of runs run_of) i ≡ slice_get (inputs_of runs run_of) j)
differ_in runs run_of kept i j a b next same =
    let k = get_or run_of j 0 in
    let more : k + 1 < length runs = omega (arith, kept.few i a, next) in
    kept.differ k more (some_injective (input_of runs (k + 1)) (input_of runs k)
    (ap (λ n. Some (input_of runs n)) (sym next) ∙ sym (input_at runs run_of i a) ∙ same ∙ input_at runs run_of j b))

-- a tick is of the run of the tick before it, or starts the next one
next_of : (runs : List Run) (run_of : List ℕ) → AreKept runs run_of → (i : ℕ) → suc i < length run_of
    → (get_or run_of (suc i) 0 ≡ get_or run_of i 0) ⊎ (get_or run_of (suc i) 0 ≡ get_or run_of i 0 + 1)
next_of runs run_of kept i h =
    let k = get_or run_of i 0 in
    let here : i < length run_of = omega arith in
    let is = kept.of i here in
    elim (cases_lt (k + 1) (length runs)) [
      | inl next ↦ elim (cases_lt (suc i + 1) (first_of runs (k + 1))) [
        | inl goes_on ↦ inl (kept.only (suc i) k h (kept.few i here) (record { from = omega (arith, is.from); to = λ l. goes_on }))
        | inr starts ↦ (let first : first_of runs (k + 1) - 1 ≡ suc i = omega (arith, starts, is.to next) in
            inr (ap (λ n. get_or run_of n 0) (sym first) ∙ kept.start (k + 1) next))
      ]
      | inr end ↦ inl (kept.only (suc i) k h (kept.few i here) (record { from = omega (arith, is.from); to = λ l. absurd (omega arith) }))
    ]

-- tick 1 is of the first run
first_run : (runs : List Run) (run_of : List ℕ) → AreKept runs run_of → 0 < length run_of → get_or run_of 0 0 ≡ 0
first_run runs run_of kept some =
    kept.only 0 0 some (omega (arith, kept.few 0 some)) (record {
      from = go (get_or run_of 0 0) refl;
      to = λ next. omega (arith, rises 0 next, kept.from 0 (omega (arith, next)));
    })
  where
    rises : (k : ℕ) → k + 1 < length runs → first_of runs k < first_of runs (k + 1)
    rises k l =
        let low : k < length runs = omega (arith, l) in
        let at : first_of runs k - 1 < length run_of = omega (arith, kept.from k low, kept.to k low) in
        let is = kept.of (first_of runs k - 1) at in
        let to : k + 1 < length runs → first_of runs k - 1 + 1 < first_of runs (k + 1) =
        subst (λ n. n + 1 < length runs → first_of runs k - 1 + 1 < first_of runs (n + 1)) (kept.start k low) is.to in
        omega (arith, to l, kept.from k low)

    go : (k : ℕ) → get_or run_of 0 0 ≡ k → first_of runs 0 ≤ 0 + 1
    go zero e = subst (λ n. first_of runs n ≤ 0 + 1) e (kept.of 0 some).from
    go (suc k) e = absurd (omega (arith, few, ap (first_of runs) e, (kept.of 0 some).from)) where
      few : 1 < first_of runs (suc k)
      few =
          let low : suc k < length runs = omega (arith, e, kept.few 0 some) in
          let up : k + 1 ≡ suc k = omega arith in
          omega (arith, rises k (omega (arith, low)), kept.from k (omega (arith, low)), ap (first_of runs) up)

-- the last tick of a run, where another run follows, and of the last run
pub run_end-next : (runs : List Run) (run_of : List ℕ) → AreKept runs run_of → (n : ℕ) → 1 ≤ n → n ≤ length run_of
    → get_or run_of (n - 1) 0 + 1 < length runs → IsRunEnd (inputs_of runs run_of) n (first_of runs (get_or run_of (n - 1) 0 + 1) - 1)
run_end-next runs run_of kept n some last next =
    let k = get_or run_of (n - 1) 0 in
    let end = first_of runs (k + 1) - 1 in
    let is = kept.of (n - 1) (omega (arith, some, last)) in
    let long = length-map run_of (input_of runs) in
    let in_run : (j : ℕ) → n ≤ j → j ≤ end → get_or run_of (j - 1) 0 ≡ k =
    λ j a b. kept.only (j - 1) k (omega (arith, b, kept.to (k + 1) next, some, a)) (omega (arith, next)) (record {
      from = omega (arith, is.from, a, some);
      to = λ l. omega (arith, b, is.to next, some, a);
    }) in
    record {
      from = omega (arith, is.to next, some);
      to = omega (arith, kept.to (k + 1) next, long);
      equal = λ j a b. equal_in runs run_of (j - 1) (n - 1) (omega (arith, b, kept.to (k + 1) next, some, a)) (omega (arith, some, last))
          (in_run j a b);
      greatest = λ l. let at : end + 1 - 1 ≡ end = omega arith in
          rw at (differ_in runs run_of kept end (end - 1) (omega (arith, l, long)) (omega (arith, l, long))
          (kept.start (k + 1) next ∙ ap (λ x. x + 1) (sym (in_run end (omega (arith, is.to next, some)) (omega arith)))));
    }

pub run_end-last : (runs : List Run) (run_of : List ℕ) → AreKept runs run_of → (n : ℕ) → 1 ≤ n → n ≤ length run_of
    → length runs ≤ get_or run_of (n - 1) 0 + 1 → IsRunEnd (inputs_of runs run_of) n (length run_of)
run_end-last runs run_of kept n some last none =
    let k = get_or run_of (n - 1) 0 in
    let is = kept.of (n - 1) (omega (arith, some, last)) in
    let long = length-map run_of (input_of runs) in
    record {
      from = last;
      to = omega (arith, long);
      equal = λ j a b. equal_in runs run_of (j - 1) (n - 1) (omega (arith, b, some, a)) (omega (arith, some, last))
          (kept.only (j - 1) k (omega (arith, b, some, a)) (kept.few (n - 1) (omega (arith, some, last))) (record {
            from = omega (arith, is.from, a, some);
            to = λ l. absurd (omega arith);
          }));
      greatest = λ l. absurd (omega (arith, l, long));
    }

-- how many runs the first ticks have
abbrev pub runs_to : List ℕ → ℕ → ℕ
runs_to run_of zero = 0
runs_to run_of (suc i) = get_or run_of i 0 + 1

-- no more runs than ticks
runs_to-few : (runs : List Run) (run_of : List ℕ) → AreKept runs run_of → (n : ℕ) → n ≤ length run_of → runs_to run_of n ≤ n
runs_to-few runs run_of kept zero h = omega arith
runs_to-few runs run_of kept (suc zero) h = omega (arith, first_run runs run_of kept (omega (arith, h)))
runs_to-few runs run_of kept (suc (suc i)) h =
    let before : runs_to run_of (suc i) ≤ suc i = runs_to-few runs run_of kept (suc i) (omega (arith, h)) in
    elim (next_of runs run_of kept i (omega (arith, h))) [
      | inl same ↦ omega (arith, same, before)
      | inr more ↦ omega (arith, more, before)
    ]

-- all ticks have all runs
whole : (runs : List Run) (run_of : List ℕ) → AreKept runs run_of → (n : ℕ) → length run_of ≡ n → length runs ≡ runs_to run_of n
whole runs run_of kept zero e = elim (cases_lt 0 (length runs)) [
  | inl some ↦ absurd (omega (arith, e, some_ticks runs run_of kept some))
  | inr none ↦ omega (arith, none)
]
whole runs run_of kept (suc i) e =
    let some : 0 < length run_of = omega (arith, e) in
    let at : length run_of - 1 ≡ i = omega (arith, e) in
    omega (arith, ap (λ k. get_or run_of k 0) (sym at), last_run runs run_of kept some, kept.few 0 some)

pub all_runs : (runs : List Run) (run_of : List ℕ) → AreKept runs run_of → AreRuns (inputs_of runs run_of) (length runs)
all_runs runs run_of kept = record {
  upto = runs_to run_of;
  none = refl;
  starts = starts;
  goes_on = goes_on;
  all = rw long (whole runs run_of kept (length run_of) refl);
} where
  long : length (inputs_of runs run_of) ≡ length run_of
  long = length-map run_of (input_of runs)

  starts : (n : ℕ) → n < length (inputs_of runs run_of) → Starts (inputs_of runs run_of) (suc n) → runs_to run_of (suc n)
      ≡ runs_to run_of n + 1
  starts zero h s = ap (λ k. k + 1) (first_run runs run_of kept (omega (arith, h, long)))
  starts (suc i) h s =
      let here : suc i < length run_of = omega (arith, h, long) in
      let at : suc (suc i) - 1 ≡ suc i = omega arith in
      let before : suc i - 1 ≡ i = omega arith in
      elim (next_of runs run_of kept i here) [
        | inl same ↦ elim s [
          | inl one ↦ absurd (omega (arith, one))
          | inr differs ↦ absurd (differs (rw (at, before) (equal_in runs run_of (suc i) i here (omega (arith, here)) same)))
        ]
        | inr more ↦ ap (λ k. k + 1) more
      ]

  goes_on : (n : ℕ) → n < length (inputs_of runs run_of) → ¬ Starts (inputs_of runs run_of) (suc n) → runs_to run_of (suc n)
      ≡ runs_to run_of n
  goes_on zero h s = absurd (s (inl refl))
  goes_on (suc i) h s =
      let here : suc i < length run_of = omega (arith, h, long) in
      let at : suc (suc i) - 1 ≡ suc i = omega arith in
      let before : suc i - 1 ≡ i = omega arith in
      elim (next_of runs run_of kept i here) [
        | inl same ↦ ap (λ k. k + 1) same
        | inr more ↦ absurd (s (inr (rw (at, before) (differ_in runs run_of kept (suc i) i here (omega (arith, here)) more))))
      ]

pub few_runs : (runs : List Run) (run_of : List ℕ) → AreKept runs run_of → length runs ≤ length run_of
few_runs runs run_of kept =
    omega (arith, whole runs run_of kept (length run_of) refl, runs_to-few runs run_of kept (length run_of) (omega arith))
