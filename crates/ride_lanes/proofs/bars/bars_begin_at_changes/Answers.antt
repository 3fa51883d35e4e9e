use Rattle.ride_lanes.proofs.ChangeLemmas.{from_runs}
use Rattle.ride_lanes.proofs.bars.bars_begin_at_changes.Goals as goal

pub returns : goal.returns
returns c = λ column bars h. from_runs column bars h
