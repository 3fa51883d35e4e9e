use Rattle.ride_lanes.proofs.RunLemmas.{whole_length}
use Rattle.ride_lanes.proofs.bars.bars_cover_all.Goals as goal

pub returns : goal.returns
returns c = λ column bars h. whole_length 1 column bars h
