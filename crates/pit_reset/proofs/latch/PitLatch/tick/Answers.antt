use Rattle.std.proofs.Common.{sym, refl, ◌∙◌}
use Rattle.lift_model.proofs.WatchedLemmas.{latched_over-push}
use Rattle.pit_reset.proofs.latch.PitLatch.tick.Goals as goal

pub returns : goal.returns
returns c ticks h = record {
  latched = c.latch_after-self.ensures
      ∙ (rw (c.is_inspecting.ensures, h.latched, c.is_good_reset-cleared.ensures) refl ∙ sym (latched_over-push ticks _));
}
