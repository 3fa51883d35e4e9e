use Rattle.std.proofs.Common.{◌≡◌, ◌<◌, ◌+◌, ◌-◌, [], ◌∷◌, ◌++◌, length, slice_get, Some, ℕ, List, sym, ap, ◌∙◌, refl, arith}
use Rattle.std.proofs.lemmas.List.{length_push, length-map}
use Rattle.lift_model.specs.Records.{InputData, TraceData}
use Rattle.lift_trace.specs.declared.trace.Run.{Run}
use Rattle.lift_trace.specs.Kept.{input_of, inputs_of}
use Rattle.lift_trace.proofs.KeptLemmas.{start-kept, start-inputs, some_ticks}
use Rattle.lift_trace.proofs.RunLemmas.{last_input, few_runs}
use Rattle.lift_trace.proofs.trace.Trace.start.Goals as goal

-- fewer ticks than there is room for
ticks : (runs : List Run) (run_of : List ℕ) (room : ℕ) (t : TraceData) → record { inputs = inputs_of runs run_of; room = room } ≡ t
    → length t.inputs < t.room → length run_of < room
ticks runs run_of room t view h =
    omega (arith, h, ap (λ (x : TraceData). length x.inputs) view, ap (λ (x : TraceData). x.room) view, length-map run_of (input_of runs))

pub push_reserved-requires : goal.push_reserved-requires
push_reserved-requires c =
    let it = c.self.inside in
    let few = few_runs it.runs.items it.run_of.items c.self.invariant.0 in
    omega (arith, few, ticks it.runs.items it.run_of.items it.room c.args.self.now c.self.view_is c.requires.room, c.self.invariant.2)

pub push_reserved-requires-2 : goal.push_reserved-requires-2
push_reserved-requires-2 c =
    let it = c.self.inside in
    omega (arith, ticks it.runs.items it.run_of.items it.room c.args.self.now c.self.view_is c.requires.room, c.self.invariant.3)

pub overflow_cast-run : goal.overflow_cast-run
overflow_cast-run c =
    let it = c.self.inside in
    omega (arith, c.len-run.ensures, few_runs it.runs.items it.run_of.items c.self.invariant.0, c.self.invariant.1, c.self.invariant.4)

pub invariant_of-self : goal.invariant_of-self
invariant_of-self c =
    let it = c.self.inside in
    let runs = it.runs.items in
    let run_of = it.run_of.items in
    let kept = c.self.invariant.0 in
    let inputs : inputs_of runs run_of ≡ c.args.self.now.inputs = ap (λ (t : TraceData). t.inputs) c.self.view_is in
    let long = length-map run_of (input_of runs) in
    let few = ticks runs run_of it.room c.args.self.now c.self.view_is c.requires.room in
    let r : Run = record { input = c.args.input; first = c.len-first.result + 1 } in
    let at : c.len-run.result ≡ length runs = omega (arith, c.len-run.ensures) in
    let items : c.push_reserved-2.new.self.items ≡ run_of ++ length runs ∷ [] =
    c.push_reserved-2.ensures.items ∙ ap (λ k. run_of ++ k ∷ []) at in
    let first : c.len-first.result + 1 ≡ length run_of + 1 = omega (arith, c.len-first.ensures.value, ap length inputs, long) in
    let differs : 0 < length runs → ¬ (c.args.input ≡ input_of runs (length runs - 1)) = λ some same.
    c.requires.differs (ap (λ xs. slice_get xs (length xs - 1)) (sym inputs)
    ∙ (last_input runs run_of kept (some_ticks runs run_of kept some) ∙ ap (λ (i : InputData). Some i) (sym same))) in (
      rw (items, c.push_reserved.ensures.items) (start-kept runs run_of r kept first differs),
      omega (arith, ap length items, length_push run_of (length runs), few),
      omega (arith, c.self.invariant.2, c.push_reserved.ensures.capacity),
      omega (arith, c.self.invariant.3, c.push_reserved-2.ensures.capacity),
      c.self.invariant.4,
    )

pub returns : goal.returns
returns c =
    let it = c.self.inside in
    let runs = it.runs.items in
    let run_of = it.run_of.items in
    let r : Run = record { input = c.args.input; first = c.len-first.result + 1 } in
    let at : c.len-run.result ≡ length runs = omega (arith, c.len-run.ensures) in
    rw (
      ← c.self.view_is,
      c.push_reserved.ensures.items,
      c.push_reserved-2.ensures.items,
      at,
      start-inputs runs run_of r c.self.invariant.0,
    ) refl
