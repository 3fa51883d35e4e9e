use Rattle.std.proofs.Common.{◌≡◌, [], ◌∷◌, ◌++◌, refl, sym, ◌∙◌}
use Rattle.lift_model.specs.Grant.{verdict_at_end}
use Rattle.lift_model.specs.Levelling.{leaves, has_moved, may_level}
use Rattle.lift_model.specs.Trace.{image_at_end}
use Rattle.level_guard.specs.Sees.{Sees}
use Rattle.level_guard.proofs.SeenLemmas.{zone_seen, leaves_seen, good_seen}
use Rattle.level_guard.proofs.Pushes.{moved-push}
use Rattle.level_guard.proofs.guard.LevelGuard.judge.Goals as goal

pub returns : goal.returns
unfolding may_level
returns g c config inputs x words parts told =
    let later = inputs ++ x ∷ [] in
    let image = image_at_end config later in
    let sees : Sees c.seen-image.result image = c.seen-image.ensures config inputs x words parts.doors parts.platform in
    let verdict : c.verdict-verdict.result ≡ verdict_at_end config later = c.verdict-verdict.ensures config later parts.channel in
    let left : c.leaves-leaves.result ≡ leaves (image_at_end config inputs) image (verdict_at_end config later) =
    c.leaves-leaves.ensures ∙ (rw (told.in_zone, verdict) (leaves_seen (image_at_end config inputs) c.seen-image.result image
    (verdict_at_end config later) sees)) in
    let moved : c.latch_after-self.result ≡ has_moved config later =
    c.latch_after-self.ensures ∙ (rw (left, told.moved, c.reset_rise.ensures config later parts.channel)
    (sym (moved-push config inputs x))) in
    record {
      parts = record { channel = parts.channel; doors = parts.doors; platform = parts.platform; there = parts.there };
      told = record {
        in_zone = c.is_in_zone-self.ensures ∙ zone_seen c.seen-image.result image sees;
        moved = moved;
        level = c.may_level-self.ensures ∙ (rw (moved, parts.there, verdict, good_seen c.seen-image.result image _ _ sees) refl);
      };
    }
