use Rattle.std.proofs.Common.{◌≡◌, ◌≤◌, ◌+◌, ◌++◌, replicate}
use Rattle.std.specs.Vec.{vec_len, vec_capacity}
use Rattle.core_model.specs.Schedule.{Tick}
use Rattle.lift_script.proofs.scripts.push_ticks.Given as goal

abbrev pub invariant-loop : goal.invariant-loop
invariant-loop l = record {
  items : l.steps.items ≡ l.fn.steps.items ++ replicate l.counter (record { line = l.line; act = Tick });
  len : vec_len l.steps ≡ vec_len l.fn.steps + l.counter;
  room : vec_len l.fn.steps + l.n ≤ vec_capacity l.steps;
}
