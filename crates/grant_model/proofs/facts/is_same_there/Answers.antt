use Rattle.std.specs.Cmp.{booleans_Decides}
use Rattle.std.proofs.lemmas.Slice.Eq.{slice_eq-Decides}
use Rattle.grant_model.proofs.facts.is_same_there.Goals as goal

-- src/facts.rt:68:1
pub returns : goal.returns
returns c = slice_eq-Decides booleans_Decides _ _ c.eq.result c.eq.ensures
