-- A word is a number exactly where it is the print of what it parses to.
use Rattle.std.proofs.Common.{◌≡◌, ◌∙◌, ◌<◌, ◌^◌, ◌&&◌, ℕ, Bool, true, false, List, inl, inr, refl, sym, ap, subst, arith, decimal, nat_lt, Some, None, Result, Ok, Err}
use Rattle.std.specs.Str.{bytes_eq}
use Rattle.std.specs.Str.Parse.{ParsesUnsigned, digits_value}
use Rattle.std.proofs.lemmas.Bool.{cases_Bool, and_parts, and_from, both_ways}
use Rattle.std.proofs.lemmas.Fmt.{decimal_is_IsNumeral, parse-decimal}
use Rattle.std.proofs.lemmas.Slice.Eq.{bytes_eq-Decides}
use Rattle.lift_front.specs.Commands.{number_in}

err_is_not_ok : {E : Type 0} (r : Result ℕ E) (e : E) (n : ℕ) → r ≡ Err e → r ≡ Ok n → ⊥
err_is_not_ok r e n err ok = cc

same_ok : {E : Type 0} (r : Result ℕ E) (m n : ℕ) → r ≡ Ok m → r ≡ Ok n → m ≡ n
same_ok r m n one other = cc

module _ (word : List ℕ) where
  abbrev value : ℕ
  value = digits_value 10 word

  -- it is the print of its value
  abbrev test : Bool
  test = nat_lt value (2 ^ 32) && bytes_eq (decimal value) word

  module _ {E : Type 0} (r : Result ℕ E) (says : ParsesUnsigned 32 10 word r) where
    parses : test ≡ true → r ≡ Ok value
    parses is =
        let (small, same) = and_parts (nat_lt value (2 ^ 32)) (bytes_eq (decimal value) word) is in
        let fits : value < 2 ^ 32 = grind (arith, small) in
        parse-decimal 32 value word r fits (omega (arith, fits)) (sym ((bytes_eq-Decides (decimal value) word).0 same)) says

    pub no_number : (e : E) → r ≡ Err e → None ≡ number_in word
    no_number e err = elim (cases_Bool test) [
      | inl is ↦ absurd (err_is_not_ok r e value err (parses is))
      | inr not_one ↦ rw not_one refl
    ]

    module _ (n : ℕ) (ok : r ≡ Ok n) where
      small : n < 2 ^ 32
      small = let (fits, is) = subst (ParsesUnsigned 32 10 word) ok says in omega (arith, fits.1, is)

      prints : bytes_eq (decimal n) word ≡ true → (n ≡ value) × (test ≡ true)
      prints same =
          let text : decimal n ≡ word = (bytes_eq-Decides (decimal n) word).0 same in
          let back : n ≡ value = sym (decimal_is_IsNumeral n (omega (arith, small))).1 ∙ ap (digits_value 10) text in
          let fits : nat_lt value (2 ^ 32) ≡ true = grind (arith, small, back) in
          (back, and_from _ _ fits (ap (λ m. bytes_eq (decimal m) word) (sym back) ∙ same))

      pub is_number : bytes_eq (decimal n) word ≡ true → Some n ≡ number_in word
      is_number same = rw (prints same).1 (ap (λ (m : ℕ). Some m) (prints same).0)

      pub other_number : bytes_eq (decimal n) word ≡ false → None ≡ number_in word
      other_number other = elim (cases_Bool test) [
        | inl is ↦
            let same = (and_parts (nat_lt value (2 ^ 32)) (bytes_eq (decimal value) word) is).1 in
            absurd (both_ways _ other (ap (λ m. bytes_eq (decimal m) word) (same_ok r n value ok (parses is)) ∙ same))
        | inr not_one ↦ rw not_one refl
      ]
