use Rattle.std.proofs.Common.{◌≡◌, ◌<◌, ◌^◌, drop}
use Rattle.script_model.specs.SideLines.{hex_from}
use Rattle.side_lines.proofs.spelling.long_word.Given as goal

abbrev pub invariant-loop-digit : goal.invariant-loop-digit
invariant-loop-digit l = record {
  value : hex_from l.n (drop l.digit-index l.digits) ≡ hex_from 0 l.digits;
  bound : l.n < 16 ^ l.digit-index;
}
