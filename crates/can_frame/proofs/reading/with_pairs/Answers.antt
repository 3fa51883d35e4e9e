use Rattle.std.proofs.Common.{rules, ap, sym, ◌∙◌}
use Rattle.can_frame.proofs.Pairs.{data_more}
use Rattle.lift_model.specs.Records.{FrameData}
use Rattle.can_frame.proofs.reading.with_pairs.Goals as goal

pub loop-rest-preserved : goal.loop-rest-preserved
loop-rest-preserved c =
    let long = c.in-len2-up.len_at_least in
    let was = sym c.hex_pair.ensures ∙ c.in_ok-b.was in
    let grown = ap (λ (f : FrameData). f.bytes) c.push.ensures in
    record {
      same = data_more _ _ c.loop-rest.rest.now _ c.in_ok-b.b (λ x. x) long (search rules) was grown c.loop-rest.invariant.same;
      id = search rules;
    }
