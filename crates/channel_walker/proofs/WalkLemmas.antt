-- Walking a list of clauses.
use Rattle.std.proofs.Common.{◌≡◌, ℕ, ◌+◌, List, ◌∷◌, Option, Some, None, map, drop, slice_get, refl, sym, ap, ◌∙◌}
use Rattle.std.proofs.lemmas.List.{drop_more}
use Rattle.std.proofs.lemmas.Option.{slice_get_within, get_or_from_slice_get}
use Rattle.lift_model.specs.Enums.{Mode}
use Rattle.lift_model.specs.Grant.{Facts, clauses, first_fault}
use Rattle.lift_model.specs.Stations.{mode_of}
use Rattle.channel_walker.specs.declared.clauses.Clause.{Clause}
use Rattle.channel_walker.specs.Details.{detail_of, order, first_failing}

here : (xs : List Clause) (i : ℕ) (x : Clause) → Some x ≡ slice_get xs i → drop i xs ≡ x ∷ drop (i + 1) xs
here xs i x got =
    drop_more xs i x (slice_get_within xs i x (sym got)) ∙ ap (λ y. y ∷ drop (i + 1) xs) (get_or_from_slice_get xs i x x (sym got))

-- a clause that holds is passed by
pub holds : (f : Facts) (mode : Mode) (k : ℕ) (xs : List Clause) (i : ℕ) (x : Clause) → Some x ≡ slice_get xs i → detail_of f mode x ≡ None
    → first_failing f mode k (drop i xs) ≡ first_failing f mode (k + 1) (drop (i + 1) xs)
unfolding first_failing
holds f mode k xs i x got none =
    ap (first_failing f mode k) (here xs i x got)
    ∙ ap (λ (d : Option ℕ). first_fault k (d ∷ map (detail_of f mode) (drop (i + 1) xs))) none

-- at a clause that fails the walk ends
pub fails : (f : Facts) (mode : Mode) (k : ℕ) (xs : List Clause) (i : ℕ) (x : Clause) (detail : ℕ) → Some x ≡ slice_get xs i
    → detail_of f mode x ≡ Some detail → first_failing f mode k (drop i xs) ≡ Some (k, detail)
unfolding first_failing
fails f mode k xs i x detail got some =
    ap (first_failing f mode k) (here xs i x got)
    ∙ ap (λ (d : Option ℕ). first_fault k (d ∷ map (detail_of f mode) (drop (i + 1) xs))) some

pub none_left : (f : Facts) (mode : Mode) (k : ℕ) → first_failing f mode k (drop 12 order) ≡ None
unfolding first_failing order
none_left f mode k = refl

-- the order is that of the definition
pub order-is : (f : Facts) → first_failing f (mode_of f.image) 1 order ≡ first_fault 1 (clauses f)
unfolding first_failing order detail_of
order-is f = refl
