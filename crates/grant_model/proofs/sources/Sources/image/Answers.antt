use Rattle.std.proofs.Common.{refl}
use Rattle.lift_model.specs.Trace.{image_at_end}
use Rattle.grant_model.proofs.sources.Sources.image.Goals as goal

pub returns-clause-values : goal.returns-clause-values
unfolding image_at_end
returns-clause-values g c config inputs h =
    rw (
      c.value.ensures _ _ _ h.roof,
      c.value-2.ensures _ _ _ h.pit,
      c.value_if.ensures config config.car _ h.car,
      c.value-3.ensures _ _ _ h.doors,
      c.value-4.ensures _ _ _ h.panel,
      c.value_if-2.ensures config config.platform _ h.platform,
    ) refl
