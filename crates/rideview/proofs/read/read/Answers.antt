use Rattle.lift_base.specs.declared.forms.Form.TheVariants.{Replay}
use Rattle.rideview.proofs.read.read.Goals as goal

pub returns-in-Ok-finish : goal.returns-in-Ok-finish
returns-in-Ok-finish g c =
    let fed = c.in-Ok-feed.ensures _ c.in-Ok.ensures.read in
    c.in-Ok-finish.ensures.rules Replay _ fed.text fed.fed
