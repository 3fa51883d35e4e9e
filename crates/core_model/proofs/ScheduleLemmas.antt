-- The events of written steps, act by act, and the inputs that a run of them took.
use Rattle.std.proofs.Common.{◌≡◌, ℕ, zero, suc, List, [], ◌∷◌, ◌++◌, take, drop, refl, sym, ap, ◌∙◌}
use Rattle.std.specs.Prelude.{map}
use Rattle.std.proofs.lemmas.List.{append-nil, append_assoc}
use Rattle.lift_base.specs.declared.Side.TheVariants.{A, B}
use Rattle.lift_model.specs.Records.{Settings, InputData}
use Rattle.core_model.specs.Machine.{Event, State}
use Rattle.core_model.specs.Runs.{CoreRun, no_events, then_event}
use Rattle.core_model.specs.Schedule.{ActData, Tick, Step, Exchange, scheduled}
use Rattle.core_model.specs.Machine as machine

-- how many acts Tick there are
abbrev pub act_ticks : List ActData → ℕ
act_ticks [] = 0
act_ticks (Tick ∷ acts) = suc (act_ticks acts)
act_ticks (act ∷ acts) = act_ticks acts

-- a list of acts goes on with the inputs that are left
pub scheduled-append : (inputs : List InputData) (xs ys : List ActData)
    → scheduled inputs (xs ++ ys) ≡ scheduled inputs xs ++ scheduled (drop (act_ticks xs) inputs) ys
scheduled-append inputs [] ys = refl
scheduled-append inputs (Tick ∷ xs) ys =
    ap (λ es. map machine.Tick (take 1 inputs) ++ es) (scheduled-append (drop 1 inputs) xs ys)
    ∙ (sym (append_assoc (map machine.Tick (take 1 inputs)) (scheduled (drop 1 inputs) xs) _)
    ∙ ap (λ is. (map machine.Tick (take 1 inputs) ++ scheduled (drop 1 inputs) xs) ++ scheduled is ys) (drop_one inputs (act_ticks xs)))
  where
    drop_one : (is : List InputData) (n : ℕ) → drop n (drop 1 is) ≡ drop (suc n) is
    drop_one [] zero = refl
    drop_one [] (suc n) = refl
    drop_one (i ∷ is) n = refl
scheduled-append inputs (Step side step ∷ xs) ys = ap (λ es. machine.Step side step ∷ es) (scheduled-append inputs xs ys)
scheduled-append inputs (Exchange side ∷ xs) ys = ap (λ es. machine.Exchange side ∷ es) (scheduled-append inputs xs ys)

-- ---- the inputs of a run

-- the inputs of the Ticks
inputs_of : List Event → List InputData
inputs_of [] = []
inputs_of (machine.Tick input ∷ events) = input ∷ inputs_of events
inputs_of (machine.Step side step ∷ events) = inputs_of events
inputs_of (machine.Exchange side ∷ events) = inputs_of events

push : (events : List Event) (event : Event) → inputs_of (events ++ event ∷ []) ≡ inputs_of events ++ inputs_of (event ∷ [])
unfolding inputs_of
push [] event = refl
push (machine.Tick input ∷ events) event = ap (λ is. input ∷ is) (push events event)
push (machine.Step side step ∷ events) event = push events event
push (machine.Exchange side ∷ events) event = push events event

-- a run has taken the inputs of its Ticks
run_inputs : (config : Settings) (events : List Event) (s : State) → CoreRun config events s → s.trace ≡ inputs_of events
unfolding inputs_of
run_inputs config _ _ no_events = refl
run_inputs config _ _ (then_event {events} {s} run (machine.Tick input) on) = ap (λ is. is ++ input ∷ []) (run_inputs config events s run)
    ∙ sym (push events (machine.Tick input))
run_inputs config _ _ (then_event {events} {s} run (machine.Step A step) on) = run_inputs config events s run
    ∙ (sym (append-nil _) ∙ sym (push events (machine.Step A step)))
run_inputs config _ _ (then_event {events} {s} run (machine.Step B step) on) = run_inputs config events s run
    ∙ (sym (append-nil _) ∙ sym (push events (machine.Step B step)))
run_inputs config _ _ (then_event {events} {s} run (machine.Exchange A) on) = run_inputs config events s run
    ∙ (sym (append-nil _) ∙ sym (push events (machine.Exchange A)))
run_inputs config _ _ (then_event {events} {s} run (machine.Exchange B) on) = run_inputs config events s run
    ∙ (sym (append-nil _) ∙ sym (push events (machine.Exchange B)))

take_none : (n : ℕ) → take {A = InputData} n [] ≡ []
take_none zero = refl
take_none (suc n) = refl

-- a schedule's Ticks take its inputs in turn
scheduled_inputs : (inputs : List InputData) (acts : List ActData) → inputs_of (scheduled inputs acts) ≡ take (act_ticks acts) inputs
unfolding inputs_of
scheduled_inputs inputs [] = refl
scheduled_inputs [] (Tick ∷ acts) = scheduled_inputs [] acts ∙ (take_none (act_ticks acts) ∙ sym (take_none (suc (act_ticks acts))))
scheduled_inputs (input ∷ inputs) (Tick ∷ acts) = ap (λ is. input ∷ is) (scheduled_inputs inputs acts)
scheduled_inputs inputs (Step side step ∷ acts) = scheduled_inputs inputs acts
scheduled_inputs inputs (Exchange side ∷ acts) = scheduled_inputs inputs acts

-- a run of these acts has taken as many inputs as there are acts Tick among them
pub run_takes : (config : Settings) (inputs : List InputData) (acts : List ActData) (s : State) → CoreRun config (scheduled inputs acts) s
    → s.trace ≡ take (act_ticks acts) inputs
run_takes config inputs acts s run = run_inputs config (scheduled inputs acts) s run ∙ scheduled_inputs inputs acts
