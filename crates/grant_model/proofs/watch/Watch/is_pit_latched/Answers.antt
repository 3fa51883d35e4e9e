use Rattle.std.proofs.Common.{◌∙◌}
use Rattle.lift_model.proofs.WatchedLemmas.{latched_over-is}
use Rattle.grant_model.proofs.watch.Watch.is_pit_latched.Goals as goal

pub returns : goal.returns
returns c config inputs h = c.latched.ensures h.pit.0 h.pit.2 ∙ latched_over-is config inputs h.pit.0 h.pit.1
