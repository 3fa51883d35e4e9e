use Rattle.std.proofs.Common.{[], ◌∷◌, ◌++◌, length, sym, ◌∙◌}
use Rattle.lift_model.proofs.PushLemmas.{image_words-push}
use Rattle.lift_model.specs.Trace.{image_at_end, frames_of}
use Rattle.lift_model.specs.Truth.{source_of}
use Rattle.level_guard.proofs.guard.seen.Goals as goal

pub returns : goal.returns
unfolding image_at_end
returns g c config inputs x words doors platform =
    let later = inputs ++ x ∷ [] in
    record {
      doors = c.value.ensures (source_of config config.doors) (frames_of (source_of config config.doors) later) (length later) doors;
      platform = c.value_if.ensures config config.platform later platform;
      words = sym words ∙ sym (image_words-push config inputs x);
    }
