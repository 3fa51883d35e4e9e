-- The events of one more step of a schedule.
use Rattle.std.proofs.Common.{◌≡◌, ℕ, zero, suc, List, [], ◌∷◌, ◌++◌, length, take, drop, refl, sym, ap, ◌∙◌, map, ◌+◌, ◌-◌, Option, Some, None, slice_get, arith, subst, false, rules}
use Rattle.std.proofs.lemmas.List.{map-append, drop_more, take-append-drop}
use Rattle.std.specs.Prelude.{IsErr, OnErr, Result, Ok, Err}
use Rattle.std.proofs.lemmas.Option.{slice_get_within, get_or_from_slice_get}
use Rattle.core_model.specs.Machine.{Event, State, enabled, Tick}
use Rattle.core_model.specs.Runs.{CoreRun}
use Rattle.core_model.specs.Schedule.{StepData, scheduled}
use Rattle.core_model.proofs.ScheduleLemmas.{act_ticks, scheduled-append, run_takes}
use Rattle.lift_model.specs.Records.{Settings, InputData}
use Rattle.grant_model.proofs.Taken.{take_got}
use Rattle.lift_core.specs.Parts.{CoreData, state_of}
use Rattle.lift_core.specs.StandsFor.{StandsFor}
use Rattle.lift_making.specs.Jobs.{BySteps}
use Rattle.lift_making.specs.Playing.{IsBad, Plays}
use Rattle.lift_making.specs.Ways.{RunOf, StopsAt, acts_of, events_of}
use Rattle.script_model.specs.Judging.{ScriptData}
use Rattle.core_model.specs.Settling.{Settled}

drop_taken : {A : Type 0} (n : ℕ) (xs : List A) → drop (length (take n xs)) xs ≡ drop n xs
drop_taken zero xs = refl
drop_taken (suc n) [] = refl
drop_taken (suc n) (x ∷ xs) = drop_taken n xs

-- one more step stands for what is scheduled of the inputs that its run has not taken
pub one_more_step : (config : Settings) (inputs : List InputData) (steps : List StepData) (step : StepData) (s : State)
    → CoreRun config (scheduled inputs (acts_of steps)) s
    → scheduled inputs (acts_of (steps ++ step ∷ []))
    ≡ scheduled inputs (acts_of steps) ++ scheduled (drop (length s.trace) inputs) (step.act ∷ [])
one_more_step config inputs steps step s run =
    let acts = acts_of steps in
    let taken : s.trace ≡ take (act_ticks acts) inputs = run_takes config inputs acts s run in
    let left : drop (length s.trace) inputs ≡ drop (act_ticks acts) inputs = ap (λ (is : List InputData). drop (length is) inputs) taken
    ∙ drop_taken (act_ticks acts) inputs in
    ap (scheduled inputs) (map-append (λ (x : StepData). x.act) steps (step ∷ []))
    ∙ (scheduled-append inputs acts (step.act ∷ [])
    ∙ ap (λ (is : List InputData). scheduled inputs acts ++ scheduled is (step.act ∷ [])) (sym left))

drop_got : {A : Type 0} (xs : List A) (i : ℕ) (x : A) → slice_get xs i ≡ Some x → drop i xs ≡ x ∷ drop (i + 1) xs
drop_got {A} xs i x got = drop_more xs i x (slice_get_within xs i x got)
    ∙ ap (λ (y : A). y ∷ drop (i + 1) xs) (get_or_from_slice_get xs i x x got)

-- the next input makes a Tick
pub next_input : (inputs : List InputData) (n : ℕ) (input taken : InputData) → Some input ≡ slice_get inputs (n + 1 - 1) → taken ≡ input
    → Tick taken ∷ [] ≡ map Tick (take 1 (drop n inputs)) ++ []
next_input inputs n input taken got is =
    let at : n + 1 - 1 ≡ n = omega arith in
    let here : Some input ≡ slice_get inputs n = got ∙ ap (slice_get inputs) at in
    let front : drop n inputs ≡ input ∷ drop (n + 1) inputs = drop_got inputs n input (sym here) in
    rw (front, is) refl

-- the steps so far and one more
pub goes_on : {CA CB : Type 0} (sa : CA → Settings → List InputData → Type 0) (sb : CB → Settings → List InputData → Type 0)
    (core : CoreData CA CB) (config : Settings)
    (inputs : List InputData) (steps : List StepData) (i : ℕ) (step : StepData) → slice_get steps i ≡ Some step
    → StandsFor sa sb core config (scheduled inputs (acts_of (take i steps)))
    → scheduled inputs (acts_of (take (i + 1) steps))
    ≡ scheduled inputs (acts_of (take i steps)) ++ scheduled (drop (length core.trace.inputs) inputs) (step.act ∷ [])
goes_on sa sb core config inputs steps i step got h =
    ap (λ (xs : List StepData). scheduled inputs (acts_of xs)) (take_got steps i step got)
    ∙ one_more_step config inputs (take i steps) step (state_of core) h.run

-- the step that is not possible
pub stops : {CA CB : Type 0} (sa : CA → Settings → List InputData → Type 0) (sb : CB → Settings → List InputData → Type 0)
    (core : CoreData CA CB) (config : Settings)
    (inputs : List InputData) (steps : List StepData) (i : ℕ) (step : StepData) → slice_get steps i ≡ Some step
    → StandsFor sa sb core config (scheduled inputs (acts_of (take i steps)))
    → IsBad core.config (state_of core) (scheduled (drop (length core.trace.inputs) inputs) (step.act ∷ []))
    → (events : List Event) × StandsFor sa sb core config events × StopsAt config inputs steps step.line events (state_of core)
stops sa sb core config inputs steps i step got h is = (
  events_of inputs (take i steps),
  h,
  record {
    before = take i steps;
    step = step;
    after = drop (i + 1) steps;
    split = sym (take-append-drop i steps) ∙ ap (λ (xs : List StepData). take i steps ++ xs) (drop_got steps i step got);
    number = refl;
    front = refl;
    event = is.event;
    next = one_more_step config inputs (take i steps) step (state_of core) h.run
        ∙ ap (λ (es : List Event). scheduled inputs (acts_of (take i steps)) ++ es) is.one;
    bad = subst (λ (c : Settings). enabled c (state_of core) is.event ≡ false) h.settings is.bad;
  },
)

-- what the schedule comes to
pub comes_to : {CA CB : Type 0} (sa : CA → Settings → List InputData → Type 0) (sb : CB → Settings → List InputData → Type 0)
    (core : CoreData CA CB) (script : ScriptData)
    (path : List Settled) (stopped : Option ℕ) → path ≡ core.path.settled
    → Plays (StandsFor sa sb core script.config) script.config (state_of core) script.inputs script.steps stopped
    → RunOf BySteps script stopped [] path
comes_to sa sb core script path None is h = record {
  few = h.few;
  events = events_of script.inputs script.steps;
  state = state_of core;
  core = h.run;
  settled = sym is;
  are_of = (refl, refl);
}
comes_to sa sb core script path (Some line) is (events, h, stopped) = record {
  few = h.few;
  events = events;
  state = state_of core;
  core = h.run;
  settled = sym is;
  are_of = (refl, stopped);
}

pub on_err : {A B P : Type 0} (r : Result A B) → (IsErr r → P) → OnErr r P
on_err (Ok x) f = tt
on_err (Err e) f = f (search rules)
