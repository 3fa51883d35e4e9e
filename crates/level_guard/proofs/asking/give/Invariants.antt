use Rattle.std.proofs.Common.{◌≡◌, [], length, take}
use Rattle.lift_model.specs.Records.{Settings}
use Rattle.level_guard.specs.Given.{GivenSoFar}
use Rattle.level_guard.specs.StandsFor.{StandsFor}
use Rattle.level_guard.proofs.asking.give.Given as goal

-- both guards took the ticks so far
abbrev pub invariant-loop-before : goal.invariant-loop-before
invariant-loop-before g l =
    let inputs = l.trace.inputs in
    record {
      room : l.supplies.room ≡ l.fn.supplies.room;
      count : length l.supplies.given ≡ l.before;
      guards : (config : Settings) → StandsFor g.HA.Channel.stands g.CA.Consumer.stands l.fn.a config []
          → StandsFor g.HB.Channel.stands g.CB.Consumer.stands l.fn.b config []
          → (StandsFor g.HA.Channel.stands g.CA.Consumer.stands l.a config (take l.before inputs))
          × (StandsFor g.HB.Channel.stands g.CB.Consumer.stands l.b config (take l.before inputs))
          × GivenSoFar config inputs l.path.settled l.before l.supplies.given;
    }
