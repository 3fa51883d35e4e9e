use Rattle.std.proofs.Common.{◌≡◌, ◌+◌, [], ◌∷◌, ◌++◌, map, take}
use Rattle.ride_lanes.specs.Cells.{cell_at}
use Rattle.ride_lanes.specs.Runs.{AreRuns}
use Rattle.ride_lanes.proofs.bars.bars_of.Given as goal

-- the bars and the last run are those of the ticks so far
abbrev pub invariant-loop-i : goal.invariant-loop-i
invariant-loop-i l = record {
  runs : AreRuns 1 (map (cell_at l.lane) (take l.i l.moments)) (l.bars.items ++ l.run ∷ []);
  end : l.run.first + l.run.ticks ≡ l.i + 1;
}
