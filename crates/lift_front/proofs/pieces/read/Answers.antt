use Rattle.lift_front.proofs.Reading.{has_script, refused_whole}
use Rattle.lift_front.proofs.pieces.read.Goals as goal

pub returns-in-Ok-finish : goal.returns-in-Ok-finish
returns-in-Ok-finish g c =
    let fed = c.in-Ok-feed.ensures c.args.form _ c.in-Ok.ensures in
    let w = fed.1 in (
      fed.0,
      has_script c.args.form _ _ c.in-Ok-finish.script _ _ w (c.in-Ok-finish.ensures.says c.args.form _ w.it.taken w.it.fed),
      c.in-Ok-finish.ensures.rules c.args.form _ w.it.taken w.it.fed,
    )

pub returns-in-Err-finish : goal.returns-in-Err-finish
returns-in-Err-finish g c =
    let fed = c.in-Ok-feed.ensures c.args.form _ c.in-Ok.ensures in
    let w = fed.1 in
    refused_whole c.args.form _ _ c.in-Err-finish.fault c.of_script.result _ w c.of_script.ensures fed.0
    (c.in-Err-finish.ensures.says c.args.form _ w.it.taken w.it.fed)
