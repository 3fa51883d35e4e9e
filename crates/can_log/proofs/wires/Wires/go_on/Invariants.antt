use Rattle.std.proofs.Common.{◌≡◌, length}
use Rattle.can_log.specs.Scripts.{words_at}
use Rattle.can_log.specs.Ahead.{rows_behind}
use Rattle.can_log.proofs.wires.Wires.go_on.Given as goal

abbrev pub invariant-loop-wires : goal.invariant-loop-wires
invariant-loop-wires l = record {
  words : words_at l.first l.tick l.n (record { a = l.wires.a; b = l.wires.b }) l.wires.rows.now
      ≡ words_at l.first l.tick l.n (record { a = l.fn.self.a; b = l.fn.self.b }) l.fn.self.rows.now;
  rows : rows_behind l.first l.tick l.n l.wires.rows.now ≡ rows_behind l.first l.tick l.n l.fn.self.rows.now;
}

abbrev pub decreases-loop-wires : goal.decreases-loop-wires
decreases-loop-wires l = length l.wires.rows.now
