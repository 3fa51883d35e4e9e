use Rattle.std.proofs.Common.{◌≡◌, ◌++◌, drop, map}
use Rattle.std.specs.List.{flat_map}
use Rattle.rideview.specs.Form.{lane_tokens, loss_tokens, number_token, part_token, report_token, text_token, value_tokens, word_token}
use Rattle.rideview.specs.Safe.{safe}
use Rattle.rideview.specs.Data.{word_of_bar}
use Rattle.ride_lanes.specs.Runs.{ticks_of}
use Rattle.rideview.proofs.writing.put.Given as goal

-- what is written and what is left are all
abbrev pub invariant-loop-part : goal.invariant-loop-part
invariant-loop-part l = record {
  tokens : l.writer.tokens ++ map part_token (drop l.part-index l.parts) ≡ l.fn.writer.tokens ++ map part_token l.parts;
  before : l.writer.before ≡ l.fn.writer.before;
}
