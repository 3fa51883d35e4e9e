-- One more tick keeps the rules of failures and of gifts.
use Rattle.std.proofs.Common.{◌≡◌, Bool, true, false, refl, ap, ◌∙◌, subst, inl, inr, ℕ, List, [], ◌∷◌, ◌++◌, length, length-append, arith}
use Rattle.std.specs.Prelude.{◌⊎◌, ◌||◌}
use Rattle.lift_model.specs.Records.{InputData}
use Rattle.round_model.specs.Giving.{gives, is_given, GivesOnce, GivesOnceIn}
use Rattle.round_model.specs.Parts.{FailsOnce, FailsOnceIn}

pub given-push : (i : ℕ) (past : List InputData) (input : InputData)
    → is_given i (past ++ input ∷ []) ≡ (is_given i past || (gives i input.faults.a || gives i input.faults.b))
given-push i [] input = last (gives i input.faults.a) (gives i input.faults.b) where
  last : (a b : Bool) → (a || (b || false)) ≡ (a || b)
  last true b = refl
  last false true = refl
  last false false = refl
given-push i (x ∷ past) input =
    ap (λ (b : Bool). gives i x.faults.a || (gives i x.faults.b || b)) (given-push i past input)
    ∙ assoc (gives i x.faults.a) (gives i x.faults.b) (is_given i past) (gives i input.faults.a || gives i input.faults.b) where
      assoc : (a b c d : Bool) → (a || (b || (c || d))) ≡ ((a || (b || c)) || d)
      assoc true b c d = refl
      assoc false true c d = refl
      assoc false false c d = refl

-- the same list begins with the same element, and goes on with the same
cons_is : {X : Type 0} {a b : X} {xs ys : List X} → a ≡ b → xs ≡ ys → (a ∷ xs) ≡ b ∷ ys
cons_is e f = rw (e, f) refl

-- a list with one more element is cut at it, or before it
cut_of : {X : Type 0} (xs : List X) (x : X) (past : List X) (y : X) (more : List X) → xs ++ x ∷ [] ≡ past ++ y ∷ more
    → ((xs ≡ past) × (x ≡ y)) ⊎ ((more' : List X) × (xs ≡ past ++ y ∷ more'))
cut_of [] x [] y more e = inl (refl, cc)
cut_of [] x (b ∷ past) y more e = absurd (omega (arith, ap length e, length-append past (y ∷ more)))
cut_of (a ∷ xs) x [] y more e = inr (xs, cons_is (cc) refl)
cut_of (a ∷ xs) x (b ∷ past) y more e = elim (cut_of xs x past y more (cc)) [
  | inl at ↦ inl (cons_is (cc) at.0, at.1)
  | inr before ↦ inr (before.0, cons_is (cc) before.1)
]

-- what holds of each tick and those before it
abbrev Each : (List InputData → InputData → Type 0) → List InputData → Type 0
Each P inputs = (past : List InputData) (input : InputData) (more : List InputData) → inputs ≡ past ++ input ∷ more → P past input

each-push : (P : List InputData → InputData → Type 0) (xs : List InputData) (x : InputData) → Each P xs → P xs x → Each P (xs ++ x ∷ [])
each-push P xs x each last past input more e = elim (cut_of xs x past input more e) [
  | inl at ↦ subst (λ (k : List InputData). P k input) at.0 (subst (P xs) at.1 last)
  | inr before ↦ each past input before.0 before.1
]

pub fails_once-push : (xs : List InputData) (x : InputData) → FailsOnceIn xs → FailsOnce xs x → FailsOnceIn (xs ++ x ∷ [])
fails_once-push = each-push FailsOnce

pub gives_once-push : (xs : List InputData) (x : InputData) → GivesOnceIn xs → GivesOnce xs x → GivesOnceIn (xs ++ x ∷ [])
gives_once-push = each-push GivesOnce

each-none : (P : List InputData → InputData → Type 0) → Each P []
each-none P past input more e = absurd (omega (arith, ap length e, length-append past (input ∷ more)))

pub fails_once-none : FailsOnceIn []
fails_once-none = each-none FailsOnce

pub gives_once-none : GivesOnceIn []
gives_once-none = each-none GivesOnce
