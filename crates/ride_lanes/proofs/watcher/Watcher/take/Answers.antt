use Rattle.std.proofs.Common.{◌≡◌, ◌+◌, ◌≤◌, take, refl, arith}
use Rattle.lift_model.specs.Grant.{facts_of}
use Rattle.ride_lanes.proofs.MomentLemmas.{one_more}
use Rattle.ride_lanes.proofs.watcher.Watcher.take.Goals as goal

pub returns-clause-stands : goal.returns-clause-stands
returns-clause-stands c = λ config h.
    let inputs = c.args.trace.now.inputs in
    let at = c.args.at in
    let more = one_more inputs at c.get.result.now c.get.ensures in
    let le : at ≤ at + 1 = omega arith in
    record {
      senses = rw more (c.take-facts.ensures.stands config (take at inputs) h.senses);
      channel = c.catch_up.ensures config at le h.channel;
    }

pub returns-clause-sight : goal.returns-clause-sight
returns-clause-sight c = λ config h.
    let inputs = c.args.trace.now.inputs in
    let at = c.args.at in
    let taken = take (at + 1) inputs in
    let now = returns-clause-stands c config h in
    let facts : c.take-facts.result ≡ facts_of config taken =
    rw (one_more inputs at c.get.result.now c.get.ensures) (c.take-facts.ensures.facts config (take at inputs) h.senses) in
    rw (facts, c.verdict.ensures config taken now.channel, c.before-2.ensures config taken now.channel) refl
