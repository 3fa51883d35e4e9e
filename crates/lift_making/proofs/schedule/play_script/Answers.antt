use Rattle.lift_making.proofs.Steps.{comes_to}
use Rattle.lift_making.proofs.schedule.play_script.Goals as goal

pub returns : goal.returns
returns c =
    comes_to _ _ c.play-stopped_at.new.core c.args.script.now c.into_path.result.settled c.play-stopped_at.result c.into_path.ensures
    (rw (c.trace.ensures, c.steps.ensures, c.config.ensures) at (c.play-stopped_at.ensures c.config.result.now c.in_ok-core.ensures))
