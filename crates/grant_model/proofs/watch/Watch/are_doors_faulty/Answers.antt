use Rattle.std.proofs.Common.{◌∙◌}
use Rattle.lift_model.proofs.WatchedLemmas.{faulty_over-is}
use Rattle.grant_model.proofs.watch.Watch.are_doors_faulty.Goals as goal

pub returns : goal.returns
returns c config inputs h = c.faulty.ensures config.door h.doors.0 h.doors.2 ∙ faulty_over-is config inputs h.doors.0 h.doors.1
