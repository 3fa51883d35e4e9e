use Rattle.std.proofs.Common.{◌≡◌, ℕ, ◌<◌, false}
use Rattle.lift_model.specs.Grant.{is_missing}
use Rattle.grant_model.proofs.facts.first_missing.Given as goal

abbrev pub invariant-loop-source : goal.invariant-loop-source
invariant-loop-source l = (j : ℕ) → j < l.source → is_missing l.there l.image j ≡ false
