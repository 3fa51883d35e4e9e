use Rattle.std.proofs.Common.{rules}
use Rattle.replay_engine.proofs.engine.Engine.open.Goals as goal

pub returns-clause-stands : goal.returns-clause-stands
returns-clause-stands g c = record {
  same = search rules;
  sides = rw (c.holder-held_a.ensures, c.holder-held_b.ensures) (c.in_ok-sides.ensures.stands _ c.requires.fails c.requires.gives);
}
