use Rattle.std.proofs.Common.{sym}
use Rattle.level_guard.proofs.Pushes.{none_in_zone, none_moved, none_levels}
use Rattle.level_guard.proofs.guard.LevelGuard.new.Goals as goal

pub returns : goal.returns
returns g c =
    let config = c.args.config.now in
    record {
      parts = record {
        channel = c.requires.channel;
        doors = c.requires.doors;
        platform = c.requires.platform;
        there = c.configured.ensures;
      };
      told = record { in_zone = sym (none_in_zone config); moved = sym (none_moved config); level = sym (none_levels config) };
    }
