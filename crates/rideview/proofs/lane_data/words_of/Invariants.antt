use Rattle.std.proofs.Common.{◌≡◌, ◌++◌, drop, map}
use Rattle.std.specs.List.{flat_map}
use Rattle.rideview.specs.Form.{lane_tokens, loss_tokens, number_token, part_token, report_token, text_token, value_tokens, word_token}
use Rattle.rideview.specs.Safe.{safe}
use Rattle.rideview.specs.Data.{word_of_bar}
use Rattle.ride_lanes.specs.Runs.{ticks_of}
use Rattle.rideview.proofs.lane_data.words_of.Given as goal

-- what is told and what is left are all
abbrev pub invariant-loop-bar : goal.invariant-loop-bar
invariant-loop-bar l = l.words.items ++ map word_of_bar (drop l.bar-index l.bars) ≡ map word_of_bar l.bars
