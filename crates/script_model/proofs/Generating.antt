-- The ticks of a generated script, one after the other.
use Rattle.std.proofs.Common.{ℕ, zero, suc, ◌≡◌, ◌+◌, ◌-◌, ◌/◌, ◌%◌, ◌==◌, Bool, false, inl, inr, if◌then◌else◌, [], ◌∷◌, ◌++◌, length, refl, sym, ap, ◌∙◌, subst, arith, length-append}
use Rattle.std.proofs.lemmas.Bool.{cases_eq}
use Rattle.std.proofs.lemmas.Bool.Decides.{nat_tests}
use Rattle.script_model.specs.Generated.{draw, next_draw, case_of, input_at, generated_input, inputs_to}

pub none_yet : (number : ℕ) → inputs_to number 0 ≡ []
unfolding inputs_to
none_yet number = refl

pub one_more : (number ticks : ℕ) → inputs_to number (ticks + 1) ≡ inputs_to number ticks ++ generated_input number (ticks + 1) ∷ []
unfolding inputs_to
one_more number ticks =
    let e : suc ticks ≡ ticks + 1 = omega arith in
    subst (λ k. inputs_to number k ≡ inputs_to number ticks ++ generated_input number k ∷ []) e refl

pub long : (number ticks : ℕ) → length (inputs_to number ticks) ≡ ticks
unfolding inputs_to
long number zero = refl
long number (suc ticks) =
    let before = long number ticks in
    let more = length-append (inputs_to number ticks) (generated_input number (suc ticks) ∷ []) in
    omega (arith, before, more)

-- ---- draws

pub first_draw : (number : ℕ) → draw number 0 ≡ number
unfolding draw
first_draw number = refl

draw_more : (number block : ℕ) → draw number (block + 1) ≡ next_draw (draw number block)
unfolding draw
draw_more number block =
    let e : suc block ≡ block + 1 = omega arith in
    subst (λ k. draw number k ≡ next_draw (draw number block)) e refl

-- after so many ticks this stood drawn, and this is drawn for the next
module _ (number before d : ℕ) (so : d ≡ draw number ((before + 199) / 200)) where
  pub drawn_next : (if before % 200 == 0 then next_draw d else d) ≡ draw number (before / 200 + 1)
  drawn_next = elim (cases_eq (before % 200) 0) [
    | inl is ↦
        let block : (before + 199) / 200 ≡ before / 200 = omega arith in
        ap (λ m. if m == 0 then next_draw d else d) is ∙ ap next_draw (so ∙ ap (draw number) block) ∙ sym (draw_more number (before / 200))
    | inr other ↦
        let no : (before % 200 == 0) ≡ false = grind (arith, nat_tests) in
        let block : (before + 199) / 200 ≡ before / 200 + 1 = omega arith in
        ap (λ (b : Bool). if b then next_draw d else d) no ∙ so ∙ ap (draw number) block
  ]

  pub drawn_still : draw number (before / 200 + 1) ≡ draw number ((before + 1 + 199) / 200)
  drawn_still = ap (draw number) (omega arith)

-- the input of the next tick was pushed
pub pushed : (number before drawn : ℕ) → drawn ≡ draw number (before / 200 + 1)
    → inputs_to number (before + 1) ≡ inputs_to number before ++ input_at (case_of drawn) (before % 200) (before + 1) ∷ []
pushed number before drawn is =
    let back : before + 1 - 1 ≡ before = omega arith in
    let same : generated_input number (before + 1) ≡ input_at (case_of drawn) (before % 200) (before + 1) =
    ap (λ k. input_at (case_of (draw number (k / 200 + 1))) (k % 200) (before + 1)) back
    ∙ ap (λ d. input_at (case_of d) (before % 200) (before + 1)) (sym is) in
    one_more number before ∙ ap (λ x. inputs_to number before ++ x ∷ []) same
