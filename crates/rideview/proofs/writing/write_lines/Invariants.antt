use Rattle.std.proofs.Common.{◌≡◌, ◌++◌, drop, map}
use Rattle.std.specs.List.{flat_map}
use Rattle.rideview.specs.Form.{lane_tokens, loss_tokens, number_token, part_token, report_token, text_token, value_tokens, word_token}
use Rattle.rideview.specs.Safe.{safe}
use Rattle.rideview.specs.Data.{word_of_bar}
use Rattle.ride_lanes.specs.Runs.{ticks_of}
use Rattle.rideview.proofs.writing.write_lines.Given as goal

-- what is written and what is left are all
abbrev pub invariant-loop-line : goal.invariant-loop-line
invariant-loop-line l = record {
  tokens : l.writer.tokens ++ map report_token (drop l.line-index l.lines) ≡ l.fn.writer.tokens ++ map report_token l.lines;
  before : l.writer.before ≡ l.fn.writer.before;
}
