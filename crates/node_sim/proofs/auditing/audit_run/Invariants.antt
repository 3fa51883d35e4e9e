use Rattle.std.proofs.Common.{◌≡◌, ◌+◌, ◌-◌, ◌≤◌, [], take, drop}
use Rattle.lift_model.specs.Enums.{A, B}
use Rattle.lift_model.specs.Trace.{frames_from}
use Rattle.round_model.specs.Parts.{has_failed}
use Rattle.node_sim.specs.Audited.{first_wrong_in, greatest, oldest_at, oldest_from, oldest_age, unhealthy_from, unhealthy_ticks}
use Rattle.node_sim.specs.Hearing.{Hears}
use Rattle.node_sim.proofs.auditing.audit_run.Given as goal

abbrev pub invariant-loop-n : goal.invariant-loop-n
invariant-loop-n l =
    let config = l.script.config in
    let trace = l.script.inputs in
    let path = l.path.settled in
    record {
      hears : Hears l.listeners config trace (frames_from 1 (take l.n trace));
      wrong : l.wrong ≡ first_wrong_in config trace [] (frames_from 1 (take l.n trace));
      last : l.last ≡ oldest_at config trace l.n;
      before : l.before ≡ oldest_at config trace (l.n - 1);
      failed_a : l.failed_a ≡ has_failed A (take l.n trace);
      failed_b : l.failed_b ≡ has_failed B (take l.n trace);
      oldest : greatest l.oldest (oldest_from config trace (l.n + 1) (drop l.n path)) ≡ oldest_age config trace path;
      count : l.count + unhealthy_from trace (l.n + 1) (drop l.n path) ≡ unhealthy_ticks trace path;
      few : l.count ≤ l.n;
    }
