use Rattle.std.proofs.Common.{◌≡◌, ◌<◌, ◌-◌, length, get_or, Some, slice_get, sym, ap, ◌∙◌, arith}
use Rattle.std.proofs.lemmas.List.{get_or_read_under}
use Rattle.lift_model.specs.Records.{InputData}
use Rattle.lift_trace.specs.declared.trace.Run.{Run}
use Rattle.lift_trace.specs.Kept.{no_run, inputs_of}
use Rattle.lift_trace.proofs.KeptLemmas.{some_ticks}
use Rattle.lift_trace.proofs.RunLemmas.{last_input, some_injective}
use Rattle.lift_trace.proofs.trace.Trace.goes_on.Goals as goal

pub returns-then-runs-gt0 : goal.returns-then-runs-gt0
returns-then-runs-gt0 c =
    let it = c.self.inside in
    let kept = c.self.invariant.0 in
    let long : c.len-runs.result ≡ length it.runs.items = omega (arith, c.len-runs.ensures) in
    let some : 0 < length it.run_of.items = some_ticks it.runs.items it.run_of.items kept (omega (arith, c.if-runs-gt0.true, long)) in
    let read : c.index.result.now ≡ get_or it.runs.items (c.len-runs.result - 1) no_run =
    get_or_read_under it.runs.items (c.len-runs.result - 1) c.len-runs.result c.index.result.now no_run c.index.ensures
    (omega (arith, c.if-runs-gt0.true)) long in
    let at : c.index.result.now ≡ get_or it.runs.items (length it.runs.items - 1) no_run =
    read ∙ ap (λ n. get_or it.runs.items (n - 1) no_run) long in
    let last : slice_get (inputs_of it.runs.items it.run_of.items) (length (inputs_of it.runs.items it.run_of.items) - 1)
    ≡ Some c.index.result.now.input =
    last_input it.runs.items it.run_of.items kept some ∙ ap (λ (r : Run). Some r.input) (sym at) in
    let same = c.is_equal.ensures in
    rw (← c.self.view_is) (
      λ t. last ∙ ap (λ (i : InputData). Some i) (same.0 t),
      λ q. same.1 (some_injective c.index.result.now.input c.args.input.now (sym last ∙ q)),
    )
