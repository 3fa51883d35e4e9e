use Rattle.std.proofs.Common.{◌≡◌, ℕ, zero, suc, ◌+◌, ◌%◌, ◌<◌, Bool, true, false, refl, sym, ap, ◌∙◌, eqb, arith}
use Rattle.std.specs.Bool.{beq}
use Rattle.std.specs.Int.{bit_at}
use Rattle.std.specs.Int.Bits.{bit_xor}
use Rattle.std.specs.Prelude.{◌&&◌, bit_and}
use Rattle.std.proofs.lemmas.Bool.{eqb-true}
use Rattle.std.proofs.lemmas.Nat.Bits.{bit_at_xor, bit_at-lt}
use Rattle.lift_model.specs.Bits.{has}
use Rattle.lift_model.proofs.BitLemmas.{has_and, has_ones}
use Rattle.contact_input.proofs.words.is_none_discrepant.Goals as goal

digits_differ : (x y : ℕ) → x < 2 → y < 2 → eqb ((x + y) % 2) 1 ≡ true → beq (eqb x 1) (eqb y 1) ≡ false
digits_differ zero zero a b e = absurd (cc)
digits_differ zero (suc zero) a b e = refl
digits_differ (suc zero) zero a b e = refl
digits_differ (suc zero) (suc zero) a b e = absurd (cc)
digits_differ zero (suc (suc y)) a b e = absurd (omega arith)
digits_differ (suc zero) (suc (suc y)) a b e = absurd (omega arith)
digits_differ (suc (suc x)) y a b e = absurd (omega arith)

left_is : (x y : Bool) → (x && y) ≡ true → x ≡ true
left_is true y e = refl
left_is false y e = absurd (cc)

pub returns : goal.returns
returns c e i h =
    let a = c.words.inside.a in
    let b = c.words.inside.b in
    let all : bit_and (bit_xor a b) 0x0FFF ≡ 0x0FFF = eqb-true (bit_and (bit_xor a b) 0x0FFF) 0x0FFF e in
    let one : (has (bit_xor a b) i && has 0x0FFF i) ≡ true = sym (has_and (bit_xor a b) 0x0FFF i)
    ∙ (ap (λ w. has w i) all ∙ has_ones 12 i h) in
    let differ : has (bit_xor a b) i ≡ true = left_is _ _ one in
    rw (← c.words.view_is) (digits_differ (bit_at a i) (bit_at b i) (bit_at-lt a i) (bit_at-lt b i)
    (sym (ap (λ d. eqb d 1) (bit_at_xor a b i)) ∙ differ))
