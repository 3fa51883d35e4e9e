use Rattle.std.proofs.Common.{◌++◌, ◌∙◌, ap}
use Rattle.std.specs.List.{flat_map}
use Rattle.rideview.proofs.Joining.{two}
use Rattle.rideview.specs.Form.{lane_tokens}
use Rattle.rideview.proofs.writing.write_front.Goals as goal

pub returns-clause-tokens : goal.returns-clause-tokens
returns-clause-tokens c =
    two _ _ _ _ _ c.in_ok-put.ensures.tokens
    (c.in_ok-write_lanes.ensures.tokens ∙ ap (λ lanes. c.put.new.writer.tokens ++ flat_map lane_tokens lanes) c.deref.ensures.value)
