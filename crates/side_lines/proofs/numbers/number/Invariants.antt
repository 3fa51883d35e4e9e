use Rattle.std.proofs.Common.{◌≡◌, ◌<◌, ◌^◌, take, drop, true}
use Rattle.std.specs.List.{list_all}
use Rattle.std.specs.Char.{is_ascii_digit}
use Rattle.script_model.specs.Numbers.{value_from}
use Rattle.side_lines.proofs.numbers.number.Given as goal

abbrev pub invariant-loop-digit : goal.invariant-loop-digit
invariant-loop-digit l = record {
  value : value_from l.n (drop l.digit-index l.digits) ≡ value_from 0 l.digits;
  digits : list_all is_ascii_digit (take l.digit-index l.digits) ≡ true;
  bound : l.n < 10 ^ l.digit-index;
}
