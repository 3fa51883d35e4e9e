use Rattle.std.proofs.Common.{refl}
use Rattle.channel_masks.proofs.clauses.verdict_from.Goals as goal

pub returns-in-Some : goal.returns-in-Some
returns-in-Some c = rw (c.is_bypassed-bypass.ensures, c.requires.mode, c.in-Some.is) refl

pub returns-in-None : goal.returns-in-None
returns-in-None c = rw (c.is_bypassed-bypass.ensures, c.wanted.ensures, c.requires.mode, c.in-None.is) refl
