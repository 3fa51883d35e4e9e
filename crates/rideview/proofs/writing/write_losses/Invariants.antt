use Rattle.std.proofs.Common.{◌≡◌, ◌++◌, drop, map}
use Rattle.std.specs.List.{flat_map}
use Rattle.rideview.specs.Form.{lane_tokens, loss_tokens, number_token, part_token, report_token, text_token, value_tokens, word_token}
use Rattle.rideview.specs.Safe.{safe}
use Rattle.rideview.specs.Data.{word_of_bar}
use Rattle.ride_lanes.specs.Runs.{ticks_of}
use Rattle.rideview.proofs.writing.write_losses.Given as goal

-- what is written and what is left are all
abbrev pub invariant-loop-loss : goal.invariant-loop-loss
invariant-loop-loss l = record {
  tokens : l.writer.tokens ++ flat_map loss_tokens (drop l.loss-index l.losses) ≡ l.fn.writer.tokens ++ flat_map loss_tokens l.losses;
  before : l.writer.before ≡ l.fn.writer.before;
}
