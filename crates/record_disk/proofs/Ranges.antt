-- Places inside a range and outside it.
use Rattle.std.proofs.Common.{ℕ, ◌≡◌, ◌+◌, ◌-◌, ◌≤◌, ◌<◌, ◌⊎◌, inl, inr, Bool, true, false, if◌then◌else◌, List, get_or, sym, ◌∙◌, ap, arith}
use Rattle.std.proofs.lemmas.Bool.{cases_lt}
use Rattle.std.proofs.lemmas.Bool.Decides.{nat_tests}
use Rattle.record_disk.specs.Disk.{Content}
use Rattle.record_disk.specs.Image.{in_range, over}

pub inside : (at count i : ℕ) → at ≤ i → i < at + count → in_range at count i ≡ true
inside at count i from to = grind (arith, nat_tests)

pub outside : (at count i : ℕ) → (i < at) ⊎ (at + count ≤ i) → in_range at count i ≡ false
outside at count i (inl before) = grind (arith, nat_tests)
outside at count i (inr after) = grind (arith, nat_tests)

pub which : (at count i : ℕ) → ((at ≤ i) × (i < at + count)) ⊎ ((i < at) ⊎ (at + count ≤ i))
which at count i = elim (cases_lt i at) [
  | inl before ↦ inr (inl before)
  | inr from ↦ elim (cases_lt i (at + count)) [ inl to ↦ inl (from, to) | inr after ↦ inr (inr after) ]
]

module _ (at count : ℕ) where
  abbrev choose : (i : ℕ) (bytes : List ℕ) (c : Content) → Bool → ℕ
  choose i bytes c b = if b then get_or bytes (i - at) 0 else c i

  over_inside : (i : ℕ) (bytes : List ℕ) (c : Content) → at ≤ i → i < at + count → over at count bytes c i ≡ get_or bytes (i - at) 0
  over_inside i bytes c from to = ap (choose i bytes c) (inside at count i from to)

  pub over_outside : (i : ℕ) (bytes : List ℕ) (c : Content) → (i < at) ⊎ (at + count ≤ i) → over at count bytes c i ≡ c i
  over_outside i bytes c out = ap (choose i bytes c) (outside at count i out)

  pub over_same : (i : ℕ) (xs ys : List ℕ) (c d : Content) → ((k : ℕ) → k < count → get_or xs k 0 ≡ get_or ys k 0) → c i ≡ d i
      → over at count xs c i ≡ over at count ys d i
  over_same i xs ys c d same is = elim (which at count i) [
    | inl range ↦ over_inside i xs c range.0 range.1 ∙ same (i - at) (omega (arith, range.0, range.1))
        ∙ sym (over_inside i ys d range.0 range.1)
    | inr out ↦ over_outside i xs c out ∙ is ∙ sym (over_outside i ys d out)
  ]

  pub over_at : (xs bytes : List ℕ) (c : Content) (k : ℕ) → k < count → get_or xs k 0 ≡ get_or bytes k 0
      → over at count xs c (at + k) ≡ get_or bytes k 0
  over_at xs bytes c k lt same =
      let e : at + k - at ≡ k = omega arith in
      over_inside (at + k) xs c (omega arith) (omega arith) ∙ ap (λ (j : ℕ). get_or xs j 0) e ∙ same
