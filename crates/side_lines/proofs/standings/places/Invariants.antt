use Rattle.std.proofs.Common.{◌≡◌, ◌<◌, ℕ, length, get_or, false}
use Rattle.saboteur.specs.Held.{has_object}
use Rattle.side_lines.proofs.standings.places.Given as goal

abbrev pub invariant-loop-i : goal.invariant-loop-i
invariant-loop-i g l = record {
  long : length l.places ≡ 255;
  filled : (k : ℕ) → k < l.i → get_or l.places k false ≡ has_object l.crew.list.items k;
}
