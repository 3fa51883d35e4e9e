use Rattle.std.proofs.Common.{◌≡◌, [], ◌∷◌, ◌++◌, refl, sym, ◌∙◌}
use Rattle.lift_model.specs.Trace.{image_at_end}
use Rattle.grant_model.proofs.Taken.{image_of}
use Rattle.grant_model.proofs.senses.Senses.look.Goals as goal

pub returns-clause-stands : goal.returns-clause-stands
returns-clause-stands g c config inputs x words sources there watch =
    let image = image_of config inputs x c.image-image.result (c.image-image.ensures.values config (inputs ++ x ∷ []) sources)
    (c.image-image.ensures.words ∙ sym words) in
    record { sources = sources; there = there; watch = c.tick.ensures config inputs x image watch }

pub returns-clause-facts : goal.returns-clause-facts
returns-clause-facts g c config inputs x words sources there watch =
    let later = inputs ++ x ∷ [] in
    let image : c.image-image.result ≡ image_at_end config later =
    image_of config inputs x c.image-image.result (c.image-image.ensures.values config later sources)
    (c.image-image.ensures.words ∙ sym words) in
    let watched = c.tick.ensures config inputs x image watch in
    rw (
      c.first_missing.ensures,
      c.has_contact_fault.ensures config later watched,
      c.is_pit_latched.ensures config later watched,
      c.are_doors_faulty.ensures config later watched,
      there,
      image,
    ) refl
