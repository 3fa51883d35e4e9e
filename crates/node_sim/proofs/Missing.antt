-- The first clause fails only where a source is missing, and where a kind is granted none is.
use Rattle.std.proofs.Common.{◌≡◌, ◌≢◌, ℕ, suc, ◌+◌, ◌<◌, ◌≤◌, Bool, false, refl, ap, ◌∙◌, arith, List, [], ◌∷◌, get_or, Option, Some, None}
use Rattle.std.specs.Prelude.{◌&&◌, option_map, is_none, is_some}
use Rattle.std.proofs.lemmas.List.{get_or-map}
use Rattle.lift_base.specs.declared.TheConstants.{SOURCES}
use Rattle.lift_model.proofs.BitLemmas.{first_below-none}
use Rattle.lift_model.specs.Grant.{Facts, facts_of, is_missing, clauses, first_fault, verdict_from, verdict_of, verdict_at_end}
use Rattle.lift_model.specs.Records.{Settings, InputData, ImageData}
use Rattle.lift_model.specs.Trace.{identifiers, configured, image_at_end}

from_number : (k : ℕ) (l : List (Option ℕ)) (d : ℕ × ℕ) → first_fault k l ≡ Some d → k ≤ d.0
from_number k [] d e = absurd (cc)
from_number k (None ∷ l) d e = let h = from_number (k + 1) l d e in omega arith
from_number k (Some x ∷ l) d e = let same : k ≡ d.0 = ap (λ (o : Option (ℕ × ℕ)). number o) e in omega arith where
  number : Option (ℕ × ℕ) → ℕ
  number None = 0
  number (Some p) = p.0

clause_from : (image : ImageData) (o : Option (ℕ × ℕ)) → ((d : ℕ × ℕ) → o ≡ Some d → 2 ≤ d.0) → (verdict_from image o).clause ≢ 1
clause_from image None h e = omega arith
clause_from image (Some d) h e = let l = h d refl in omega arith

behind_first : (image : ImageData) (missing : Option ℕ) (rest : List (Option ℕ)) → missing ≡ None
    → (verdict_from image (first_fault 1 (missing ∷ rest))).clause ≢ 1
behind_first image None rest e = clause_from image (first_fault 2 rest) (λ d e. from_number 2 rest d e)
behind_first image (Some x) rest e = absurd (cc)

abbrev behind : List (Option ℕ) → List (Option ℕ)
behind [] = []
behind (x ∷ xs) = xs

not_first : (f : Facts) → f.missing ≡ None → (verdict_of f).clause ≢ 1
unfolding verdict_of
not_first f none = behind_first f.image f.missing (behind (clauses f)) none

pub clause_not_first : (config : Settings) (inputs : List InputData)
    → ((j : ℕ) → j < SOURCES → is_missing (configured config) (image_at_end config inputs) j ≡ false)
    → (verdict_at_end config inputs).clause ≢ 1
unfolding verdict_at_end
clause_not_first config [] h = λ e. omega arith
clause_not_first config (x ∷ inputs) h =
    not_first (facts_of config (x ∷ inputs))
    (ap (option_map suc) (first_below-none SOURCES (is_missing (configured config) (image_at_end config (x ∷ inputs))) h))

-- a source that is there where it is configured is not missing
pub there : (config : Settings) (image : ImageData) (j : ℕ)
    → ((plain : ℕ) → get_or (identifiers config) j None ≡ Some plain → (v : ℕ) × (get_or image.values j None ≡ Some v))
    → j < SOURCES → is_missing (configured config) image j ≡ false
there config image j h few = ap (λ (b : Bool). b && is_none (get_or image.values j None))
    (get_or-map is_some (identifiers config) j None false few)
    ∙ go (get_or (identifiers config) j None) refl
  where
    go : (o : Option ℕ) → get_or (identifiers config) j None ≡ o → (is_some o && is_none (get_or image.values j None)) ≡ false
    go None e = refl
    go (Some plain) e = let v = h plain e in rw v.1 refl
