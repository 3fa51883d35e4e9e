use Rattle.std.proofs.Common.{arith, refl, inl, ◌∙◌}
use Rattle.lift_front.proofs.Reading.{fed_nothing, fed_more, ended_is_closed, refused}
use Rattle.lift_front.proofs.pieces.feed.Goals as goal

pub reads-init : goal.reads-init
reads-init g c = record { fed = λ form places h. fed_nothing form places _ _ h; buffer = refl; calm = refl }

pub returns-in-Ok-Ended : goal.returns-in-Ok-Ended
returns-in-Ok-Ended g c form places h =
    let w = c.reads.invariant.fed form places h in
    let tells = rw c.in-Ok-Ended.field-0-is at (c.in-Ok-Ended.ensures.tells form places w.it.taken w.it.fed) in (
      c.in-Ok.ensures.cause.calm ∙ c.reads.invariant.calm,
      record {
        it = fed_more form places _ _ _ _ _ _ w.it c.in-Ok.ensures.bytes.0 (c.in-Ok-Ended.ensures.read form places w.it.taken w.it.fed);
        ended = inl (ended_is_closed _ tells.0 _ tells.1);
      },
    )

pub returns-in-Err-feed : goal.returns-in-Err-feed
returns-in-Err-feed g c form places h =
    let w = c.reads.invariant.fed form places h in
    refused form places _ c.in-Err-feed.fault c.of_script.result _
    (fed_more form places _ _ _ _ _ _ w.it c.in-Ok.ensures.bytes.0 (c.in-Err-feed.ensures.read form places w.it.taken w.it.fed))
    c.of_script.ensures (c.in-Ok.ensures.cause.calm ∙ c.reads.invariant.calm) (c.in-Err-feed.ensures.tells form places w.it.taken w.it.fed)

pub reads-preserved : goal.reads-preserved
reads-preserved g c = record {
  fed = λ form places h. let w = c.reads.invariant.fed form places h in record {
    it = fed_more form places _ _ _ _ _ _ w.it c.in-Ok.ensures.bytes.0 (c.in-Ok-More.ensures.read form places w.it.taken w.it.fed);
    open_yet = rw c.in-Ok-More.field-0-is at (c.in-Ok-More.ensures.tells form places w.it.taken w.it.fed);
  };
  buffer = omega arith;
  calm = c.in-Ok.ensures.cause.calm ∙ c.reads.invariant.calm;
}
