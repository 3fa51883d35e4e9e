-- The bytes of a frame, pair by pair.
use Rattle.std.proofs.Common.{◌≡◌, ◌<◌, ◌≤◌, ◌-◌, ◌++◌, List, [], ◌∷◌, ℕ, length, take, drop, refl, sym, ap, ◌∙◌, arith, nat_lt, true, rules, slice_index}
use Rattle.std.specs.declared.option.Option.{Option}
use Rattle.std.specs.declared.option.Option.TheVariants.{Some}
use Rattle.std.proofs.lemmas.List.{take_rest}
use Rattle.can_frame.specs.Spelling.{data_from, byte_of}

step : (done rest : List ℕ) (b : ℕ) → 2 ≤ length rest → length done < 8 → byte_of (slice_index rest 0) (slice_index rest 1) ≡ Some b
    → data_from done rest ≡ data_from (done ++ b ∷ []) (drop 2 rest)
step done [] b long room is = absurd (omega arith)
step done (x ∷ []) b long room is = absurd (omega arith)
step done (x ∷ y ∷ more) b long room is = let h : nat_lt (length done) 8 ≡ true = search rules in rw (h, is) refl

pub data_more : {A : Type 0} (done new rest : List ℕ) (all : A) (b : ℕ) (f : Option (List ℕ) → A) → 2 ≤ length rest → length done < 8
    → byte_of (slice_index rest 0) (slice_index rest 1) ≡ Some b → new ≡ done ++ b ∷ []
    → f (data_from done rest) ≡ all → f (data_from new (take (length rest - 2) (drop 2 rest))) ≡ all
data_more done new rest all b f long room is grown so_far =
    ap (λ x. f (data_from new x)) (take_rest rest 2)
    ∙ ap (λ x. f (data_from x (drop 2 rest))) grown ∙ ap f (sym (step done rest b long room is)) ∙ so_far
