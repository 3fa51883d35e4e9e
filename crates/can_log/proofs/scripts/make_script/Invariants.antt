use Rattle.std.proofs.Common.{◌≡◌, ◌≤◌, ℕ, [], length}
use Rattle.can_log.specs.Taken.{first_or}
use Rattle.can_log.specs.Scripts.{words_at, all_zero, inputs_to}
use Rattle.can_log.specs.Ahead.{IsAhead}
use Rattle.can_log.proofs.scripts.make_script.Given as goal

abbrev pub invariant-loop-n : goal.invariant-loop-n
invariant-loop-n l = record {
  config : l.made.config ≡ l.fn.config;
  steps : l.made.steps ≡ [];
  inputs : l.made.inputs ≡ inputs_to l.log l.rows l.n;
  many : length l.made.inputs ≡ l.n;
  ahead : IsAhead l.n l.log.taken l.ahead;
  wires : (m : ℕ) → l.n ≤ m → words_at (first_or 0 l.log.first) l.log.taking.tick m all_zero l.rows
      ≡ words_at (first_or 0 l.log.first) l.log.taking.tick m (record { a = l.wires.a; b = l.wires.b }) l.wires.rows.now;
}
