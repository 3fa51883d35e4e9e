-- What a decimal number says tells how it is spelled.
use Rattle.std.proofs.Common.{◌≡◌, ◌<◌, ◌≤◌, ◌==◌, ◌&&◌, List, ℕ, length, refl, sym, ap, ◌∙◌, arith, true, false, Bool, not, codes, decimal, rules, nat_le, get_or, slice_index}
use Rattle.std.specs.List.{list_all}
use Rattle.std.specs.Char.{is_ascii_digit}
use Rattle.std.specs.Str.{bytes_eq}
use Rattle.std.specs.declared.option.Option.TheVariants.{Some}
use Rattle.std.proofs.lemmas.Option.{cond_some}
use Rattle.std.proofs.lemmas.Slice.Eq.{bytes_eq-Decides}
use Rattle.std.proofs.lemmas.Str.Parse.{IsNumeralModel, numerals_by_fold}
use Rattle.std.proofs.lemmas.Fmt.{decimal-digits_value, decimal_digit}
use Rattle.lift_base.specs.declared.limits.TheConstants.{MOST_TICKS}
use Rattle.script_model.specs.Numbers.{value_from, number_of, place_of}
use Rattle.script_model.proofs.Choices.{bind_some, choose}

own : IsNumeralModel (λ ds. list_all is_ascii_digit ds ≡ true) (value_from 0)
own = numerals_by_fold _ (search rules) value_from (search rules)

four_tests : (a b c d e : Bool) → (a && (not b && (c && (d && e)))) ≡ true → (a ≡ true) × (b ≡ false) × (c ≡ true) × (d ≡ true) × (e ≡ true)
four_tests true false true true true h = (refl, refl, refl, refl, refl)
four_tests _ _ _ _ _ h = absurd cc

pub number_inv : (ds : List ℕ) (n : ℕ) → number_of ds ≡ Some n → (n ≤ MOST_TICKS) × (ds ≡ decimal n)
number_inv ds n e =
    let (tests, is) = cond_some _ (value_from 0 ds) n e in
    let t = four_tests (list_all is_ascii_digit ds) (slice_index ds 0 == 48) (nat_le 1 (length ds)) (nat_le (length ds) 6)
    (nat_le (value_from 0 ds) MOST_TICKS) tests in
    let most : value_from 0 ds ≤ MOST_TICKS = grind (arith, t.4) in
    let some : 0 < length ds = grind (arith, t.2) in
    let first : get_or ds 0 0 ≡ 48 → length ds ≡ 1 = λ z. grind (arith, t.1, z) in
    let text : decimal (value_from 0 ds) ≡ ds = decimal-digits_value own ds t.0 some first (omega arith) in
    (omega arith, sym text ∙ ap decimal is)

pub place_inv : (ds : List ℕ) (i : ℕ) → place_of ds ≡ Some i → (ds ≡ decimal i) × (i ≤ 254)
place_inv ds i e = choose (bytes_eq ds (codes "0")) _ _ _ e
    (λ is e'.
    let zero_is : 0 ≡ i = cc in
    ((bytes_eq-Decides ds (codes "0")).0 is ∙ sym (decimal_digit 0 (omega arith)) ∙ ap decimal zero_is, omega (arith, zero_is)))
    (λ is_not e'.
    let (n, hn, en) = bind_some _ (number_of ds) i e' in
    let (few, same) = cond_some (nat_le n 254) n i en in
    let most : n ≤ 254 = search rules in
    ((number_inv ds n hn).1 ∙ ap decimal same, omega (arith, most, same)))
