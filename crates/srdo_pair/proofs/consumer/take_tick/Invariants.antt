use Rattle.std.proofs.Common.{◌≡◌, ℕ, ◌+◌, List, drop}
use Rattle.lift_model.specs.Live.{Timed, Source, and_frames}
use Rattle.srdo_pair.proofs.consumer.take_tick.Given as goal

-- from each history that it stood for, it stands for one from which the frames that are left lead to the same
abbrev pub invariant-loop-frame : goal.invariant-loop-frame
invariant-loop-frame g l =
    (source : Source) (earlier : List Timed) (n : ℕ) → g.C.Consumer.stands l.fn.consumer source earlier n
    → (so_far : List Timed) × (g.C.Consumer.stands l.consumer source so_far n)
    × (and_frames source so_far (drop l.frame-index l.frames) (n + 1) ≡ and_frames source earlier l.frames (n + 1))
