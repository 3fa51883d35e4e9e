use Rattle.std.proofs.Common.{◌∙◌, ap, sym, arith}
use Rattle.lift_model.specs.Grant.{clauses}
use Rattle.channel_masks.specs.Gap.{gap_of}
use Rattle.channel_masks.proofs.FirstFault.{first_fault-found, first_fault-none}
use Rattle.channel_masks.proofs.clauses.first_fault.Goals as goal

pub detail-requires-clause-gap : goal.detail-requires-clause-gap
detail-requires-clause-gap c = c.first_open_in-gap.ensures ∙ ap (gap_of c.args.facts.now) c.requires.mode

pub detail-requires-clause-fails : goal.detail-requires-clause-fails
detail-requires-clause-fails c = c.in-Some.ensures.fails

pub detail-requires-clause-clause : goal.detail-requires-clause-clause
detail-requires-clause-clause c = c.in-Some.ensures.clause

pub returns-in-Some-clause-value : goal.returns-in-Some-clause-value
returns-in-Some-clause-value c =
    sym (first_fault-found (clauses c.args.facts.now) 12 c.in-Some.i c.detail.result
    (sym c.in-Some.is ∙ c.first_failing.ensures.first) c.detail.ensures)

pub returns-in-Some-clause-numbered : goal.returns-in-Some-clause-numbered
returns-in-Some-clause-numbered c = omega (arith, c.in-Some.ensures.clause)

pub returns-in-None-clause-value : goal.returns-in-None-clause-value
returns-in-None-clause-value c =
    sym (first_fault-none (clauses c.args.facts.now) (sym c.in-None.is ∙ c.first_failing.ensures.first))
