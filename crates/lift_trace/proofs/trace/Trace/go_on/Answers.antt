use Rattle.std.proofs.Common.{◌≡◌, ◌<◌, ◌-◌, [], ◌∷◌, ◌++◌, length, slice_get, sym, ap, ◌∙◌, subst, refl, arith}
use Rattle.std.proofs.lemmas.List.{length_push, length-map}
use Rattle.lift_model.specs.Records.{TraceData}
use Rattle.lift_trace.specs.Kept.{input_of, inputs_of, AreKept}
use Rattle.lift_trace.proofs.KeptLemmas.{goes_on-kept, goes_on-inputs, some_runs}
use Rattle.lift_trace.proofs.RunLemmas.{last_input, few_runs, some_injective}
use Rattle.lift_trace.proofs.trace.Trace.go_on.Goals as goal

pub overflow_cast-run : goal.overflow_cast-run
overflow_cast-run c =
    let it = c.self.inside in
    omega (arith, c.len-run.ensures, few_runs it.runs.items it.run_of.items c.self.invariant.0, c.self.invariant.1, c.self.invariant.4)

pub invariant_of-self : goal.invariant_of-self
invariant_of-self c =
    let it = c.self.inside in
    let runs = it.runs.items in
    let run_of = it.run_of.items in
    let kept = c.self.invariant.0 in
    let inputs : length (inputs_of runs run_of) ≡ length c.args.self.now.inputs = ap (λ (t : TraceData). length t.inputs) c.self.view_is in
    let room : it.room ≡ c.args.self.now.room = ap (λ (t : TraceData). t.room) c.self.view_is in
    let long = length-map run_of (input_of runs) in
    let last : c.len-run.result - 1 ≡ length runs - 1 = omega (arith, c.len-run.ensures) in
    let items : c.push_reserved.new.self.items ≡ run_of ++ (length runs - 1) ∷ [] =
    c.push_reserved.ensures.items ∙ ap (λ k. run_of ++ k ∷ []) last in
    let some : 0 < length runs = some_runs runs run_of kept (omega (arith, c.requires.some, inputs, long)) in (
      subst (AreKept runs) (sym items) (goes_on-kept runs run_of kept some),
      omega (arith, ap length items, length_push run_of (length runs - 1), c.requires.room, inputs, long, room),
      c.self.invariant.2,
      omega (arith, c.self.invariant.3, c.push_reserved.ensures.capacity),
      c.self.invariant.4,
    )

pub returns : goal.returns
returns c last is =
    let it = c.self.inside in
    let runs = it.runs.items in
    let run_of = it.run_of.items in
    let kept = c.self.invariant.0 in
    let inputs : inputs_of runs run_of ≡ c.args.self.now.inputs = ap (λ (t : TraceData). t.inputs) c.self.view_is in
    let long = length-map run_of (input_of runs) in
    let some : 0 < length run_of = omega (arith, c.requires.some, ap length inputs, long) in
    let at : c.len-run.result - 1 ≡ length runs - 1 = omega (arith, c.len-run.ensures) in
    let newest : input_of runs (length runs - 1) ≡ last =
    some_injective (input_of runs (length runs - 1)) last
    (sym (last_input runs run_of kept some) ∙ (ap (λ xs. slice_get xs (length xs - 1)) inputs ∙ is)) in
    rw (← c.self.view_is, c.push_reserved.ensures.items, at, goes_on-inputs runs run_of (length runs - 1), newest) refl
