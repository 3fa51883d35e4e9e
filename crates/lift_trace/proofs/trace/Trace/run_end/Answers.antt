use Rattle.std.proofs.Common.{◌≡◌, ℕ, ◌+◌, ◌-◌, ◌<◌, ◌≤◌, List, length, get_or, refl, sym, ap, ◌∙◌, arith}
use Rattle.std.proofs.lemmas.List.{get_or_read_under, length-map}
use Rattle.lift_model.specs.Records.{TraceData}
use Rattle.lift_trace.specs.declared.trace.Run.{Run}
use Rattle.lift_trace.specs.Kept.{no_run, input_of, first_of, inputs_of}
use Rattle.lift_trace.proofs.RunLemmas.{run_end-next, run_end-last}
use Rattle.lift_trace.proofs.trace.Trace.run_end.Goals as goal

-- the tick is one of those that were kept
kept_tick : (runs : List Run) (run_of : List ℕ) (room n : ℕ) (t : TraceData) → record { inputs = inputs_of runs run_of; room = room } ≡ t
    → n ≤ length t.inputs → n ≤ length run_of
kept_tick runs run_of room n t view h = omega (arith, h, ap (λ (x : TraceData). length x.inputs) view, length-map run_of (input_of runs))

pub returns-then-next-len : goal.returns-then-next-len
returns-then-next-len c =
    let it = c.self.inside in
    let runs = it.runs.items in
    let run_of = it.run_of.items in
    let n = c.args.n in
    let last = kept_tick runs run_of it.room n c.args.self.now c.self.view_is c.requires.last in
    let run : c.index.result.now ≡ get_or run_of (n - 1) 0 =
    get_or_read_under run_of (n - 1) (length run_of) c.index.result.now 0 c.index.ensures (omega (arith, c.requires.first, last)) refl in
    let next : get_or run_of (n - 1) 0 + 1 < length runs = omega (arith, run, c.if-next-len.true, c.len.ensures) in
    let read : c.index-then-next-len.result.now ≡ get_or runs (c.index.result.now + 1) no_run =
    get_or_read_under runs (c.index.result.now + 1) (length runs) c.index-then-next-len.result.now no_run c.index-then-next-len.ensures
    (omega (arith, next, run)) refl in
    let first : c.index-then-next-len.result.now.first ≡ first_of runs (get_or run_of (n - 1) 0 + 1) =
    ap (λ (r : Run). r.first) read ∙ ap (λ k. first_of runs (k + 1)) run in
    rw (← c.self.view_is, first) (run_end-next runs run_of c.self.invariant.0 n c.requires.first last next)

pub returns-else-next-len : goal.returns-else-next-len
returns-else-next-len c =
    let it = c.self.inside in
    let runs = it.runs.items in
    let run_of = it.run_of.items in
    let n = c.args.n in
    let last = kept_tick runs run_of it.room n c.args.self.now c.self.view_is c.requires.last in
    let run : c.index.result.now ≡ get_or run_of (n - 1) 0 =
    get_or_read_under run_of (n - 1) (length run_of) c.index.result.now 0 c.index.ensures (omega (arith, c.requires.first, last)) refl in
    let none : length runs ≤ get_or run_of (n - 1) 0 + 1 = omega (arith, run, c.if-next-len.false, c.len.ensures) in
    let all : c.len-else-next-len.result ≡ length run_of =
    c.len-else-next-len.ensures.value ∙ (ap (λ (t : TraceData). length t.inputs) (sym c.self.view_is)
    ∙ length-map run_of (input_of runs)) in
    rw (← c.self.view_is, all) (run_end-last runs run_of c.self.invariant.0 n c.requires.first last none)
