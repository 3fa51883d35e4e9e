use Rattle.lift_promise.proofs.Completing.{complete}
use Rattle.lift_promise.proofs.top.pessral.Goals as goal

pub returns-clause-complete : goal.returns-clause-complete
returns-clause-complete g c =
    complete _ _ c.run-ending.result.ending c.run-ending.result.run _ _ _ _ c.run-ending.ensures.comes_to c.run-ending.ensures.on_disk
