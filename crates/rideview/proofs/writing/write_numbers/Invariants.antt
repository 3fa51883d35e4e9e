use Rattle.std.proofs.Common.{◌≡◌, ◌++◌, drop, map}
use Rattle.std.specs.List.{flat_map}
use Rattle.rideview.specs.Form.{lane_tokens, loss_tokens, number_token, part_token, report_token, text_token, value_tokens, word_token}
use Rattle.rideview.specs.Safe.{safe}
use Rattle.rideview.specs.Data.{word_of_bar}
use Rattle.ride_lanes.specs.Runs.{ticks_of}
use Rattle.rideview.proofs.writing.write_numbers.Given as goal

-- what is written and what is left are all
abbrev pub invariant-loop-number : goal.invariant-loop-number
invariant-loop-number l = record {
  tokens : l.writer.tokens ++ map number_token (drop l.number-index l.numbers) ≡ l.fn.writer.tokens ++ map number_token l.numbers;
  before : l.writer.before ≡ l.fn.writer.before;
}
