use Rattle.std.proofs.Common.{◌≡◌, ℕ, eqb, Option, Some, None, Decides, refl, sym, ap}
use Rattle.std.specs.Option.{option_eq, is_some, unwrap_or}
use Rattle.std.proofs.lemmas.Bool.{true≢false}
use Rattle.std.proofs.lemmas.Bool.Decides.{Decides-eqb}
use Rattle.std.proofs.lemmas.Slice.Eq.{slice_eq-Decides}
use Rattle.grant_model.proofs.same_image.are_same_values.Goals as goal

value_decides : (x y : Option ℕ) → Decides (option_eq eqb x y) (x ≡ y)
value_decides None None = (λ _. refl, λ _. refl)
value_decides None (Some y) = (λ e. absurd (true≢false (sym e)), λ e. absurd (true≢false (ap is_some (sym e))))
value_decides (Some x) None = (λ e. absurd (true≢false (sym e)), λ e. absurd (true≢false (ap is_some e)))
value_decides (Some x) (Some y) = (λ e. ap Some ((Decides-eqb x y).0 e), λ e. (Decides-eqb x y).1 (ap (λ u. unwrap_or u x) e))

-- src/same_image.rt:7:1
pub returns : goal.returns
returns c = slice_eq-Decides value_decides _ _ c.eq.result c.eq.ensures
