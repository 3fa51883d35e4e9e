use Rattle.std.proofs.Common.{◌≡◌, ℕ, ◌++◌, List, map, take, get_or}
use Rattle.lift_model.specs.Live.{Timed}
use Rattle.lift_model.specs.Records.{Settings, InputData}
use Rattle.lift_model.specs.Truth.{true_word}
use Rattle.node_sim.specs.Audited.{at_tick, first_wrong_in}
use Rattle.node_sim.specs.Hearing.{Hears}
use Rattle.node_sim.proofs.listeners.Listeners.take_tick.Given as goal

abbrev pub invariant-loop-frame : goal.invariant-loop-frame
invariant-loop-frame l = (config : Settings) (trace : List InputData) (before : List Timed) → Hears l.fn.self config trace before
    → ((i : ℕ) → get_or l.input-inside.truth i 0 ≡ true_word trace i l.tick)
    → (l.wrong ≡ first_wrong_in config trace before (map (at_tick l.tick) (take l.frame-index l.frame-items)))
    × Hears l.self config trace (before ++ map (at_tick l.tick) (take l.frame-index l.frame-items))
