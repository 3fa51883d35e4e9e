use Rattle.std.proofs.Common.{◌∙◌, None}
use Rattle.std.specs.Prelude.{is_some, get_or}
use Rattle.lift_model.specs.Grant.{clauses}
use Rattle.lift_model.proofs.BitLemmas.{first_below-same}
use Rattle.channel_masks.proofs.FirstFault.{first_below-within, first_below-passes}
use Rattle.channel_masks.proofs.clauses.first_failing.Goals as goal

pub returns-clause-first : goal.returns-clause-first
returns-clause-first c = c.lowest.ensures 12 c.failing.ensures.small ∙ first_below-same 12 _ _ c.failing.ensures.fails

pub returns-clause-clause : goal.returns-clause-clause
returns-clause-clause c = first_below-within 12 _ c.lowest.result (returns-clause-first c)

pub returns-clause-fails : goal.returns-clause-fails
returns-clause-fails c =
    first_below-passes 12 (λ i. is_some (get_or (clauses c.args.facts.now) i None))
    c.lowest.result (returns-clause-first c)
