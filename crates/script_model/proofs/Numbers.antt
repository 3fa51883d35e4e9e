-- Decimal numbers are read as they were written.
use Rattle.std.proofs.Common.{◌≡◌, ◌<◌, ◌≤◌, ◌^◌, ◌==◌, inl, inr, List, [], ◌∷◌, ℕ, length, get_or, ap, codes, refl, arith, true, false, rules, nat_le, decimal, slice_index}
use Rattle.std.specs.List.{list_all, AllByRecursion}
use Rattle.std.specs.Char.{is_ascii_digit}
use Rattle.std.specs.Str.{bytes_eq}
use Rattle.std.proofs.lemmas.Bool.{cases_Bool}
use Rattle.std.proofs.lemmas.Slice.Eq.{bytes_eq-Decides}
use Rattle.std.specs.declared.option.Option.TheVariants.{Some}
use Rattle.std.proofs.lemmas.Grind.{common_steps}
use Rattle.std.proofs.lemmas.Str.Parse.{IsNumeralModel, numerals_by_fold}
use Rattle.std.proofs.lemmas.Fmt.{digits_decimal, digits_value-decimal, decimal_nonempty, length-decimal-le, first_decimal}
use Rattle.lift_base.specs.declared.limits.TheConstants.{MOST_TICKS}
use Rattle.script_model.specs.Numbers.{value_from, number_of}

own : IsNumeralModel (λ ds. list_all is_ascii_digit ds ≡ true) (value_from 0)
own = numerals_by_fold _ (search rules) value_from (search rules)

pub number_of-decimal : (n : ℕ) → 1 ≤ n → n ≤ MOST_TICKS → number_of (decimal n) ≡ Some n
number_of-decimal n least most =
    let small : n < 2 ^ 64 = omega arith in
    let digits = digits_decimal own n small in
    let value = digits_value-decimal own n small in
    let first = first_decimal n least small in
    let some = decimal_nonempty n small in
    let few = length-decimal-le 6 n (omega arith) (omega arith) small in
    let a : (slice_index (decimal n) 0 == 48) ≡ false = grind (arith, first) in
    let b : nat_le 1 (length (decimal n)) ≡ true = grind (arith, some) in
    let c : nat_le (length (decimal n)) 6 ≡ true = grind (arith, few) in
    let d : nat_le n MOST_TICKS ≡ true = grind arith in
    rw (digits, a, b, c, value, d) refl

digit_is_no_feed : (ds : List ℕ) → list_all is_ascii_digit ds ≡ true → AllByRecursion (λ b. (b == 10) ≡ false) ds
digit_is_no_feed [] all = tt
digit_is_no_feed (d ∷ ds) all =
    let rest : list_all is_ascii_digit ds ≡ true = grind (arith, common_steps) in
    let one : (d == 10) ≡ false = grind (arith, common_steps) in
    (one, digit_is_no_feed ds rest)

pub decimal_has_no_feed : (n : ℕ) → n ≤ MOST_TICKS → AllByRecursion (λ b. (b == 10) ≡ false) (decimal n)
decimal_has_no_feed n most = digit_is_no_feed (decimal n) (digits_decimal own n (omega arith))

-- a number from 1 on does not begin with 0
pub not_zero : (n : ℕ) → 1 ≤ n → n < 2 ^ 64 → bytes_eq (decimal n) (codes "0") ≡ false
not_zero n least small =
    let first = first_decimal n least small in
    elim (cases_Bool (bytes_eq (decimal n) (codes "0"))) [
      | inl is ↦
          let at : get_or (decimal n) 0 0 ≡ 48 = ap (λ (ds : List ℕ). get_or ds 0 0) ((bytes_eq-Decides (decimal n) (codes "0")).0 is) in
          absurd (omega (arith, first, at))
      | inr is_not ↦ is_not
    ]
