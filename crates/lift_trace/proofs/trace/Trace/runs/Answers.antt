use Rattle.std.proofs.Common.{◌≡◌, length, arith}
use Rattle.lift_trace.proofs.RunLemmas.{few_runs, all_runs}
use Rattle.lift_trace.proofs.trace.Trace.runs.Goals as goal

pub overflow_cast-result : goal.overflow_cast-result
overflow_cast-result c =
    let it = c.self.inside in
    omega (arith, c.len.ensures, few_runs it.runs.items it.run_of.items c.self.invariant.0, c.self.invariant.1, c.self.invariant.4)

pub returns : goal.returns
returns c =
    let it = c.self.inside in
    let at : c.len.result ≡ length it.runs.items = omega (arith, c.len.ensures) in
    rw (← c.self.view_is, at) (all_runs it.runs.items it.run_of.items c.self.invariant.0)
