-- A result is one of the two, and holds one thing.
use Rattle.std.proofs.Common.{◌≡◌, ◌⊎◌, inl, inr, refl, sym, ap, ◌∙◌, Result, Ok, Err}
use Rattle.std.specs.Result.{is_ok}
use Rattle.std.proofs.lemmas.Bool.{false≢true}

pub either_of : {A B : Type 0} (r : Result A B) → ((a : A) × (r ≡ Ok a)) ⊎ ((b : B) × (r ≡ Err b))
either_of (Ok a) = inl (a, refl)
either_of (Err b) = inr (b, refl)

pub not_both : {A B : Type 0} (r : Result A B) (a : A) (b : B) → r ≡ Ok a → r ≡ Err b → ⊥
not_both r a b ok err = false≢true (ap is_ok (sym err ∙ ok))

abbrev ok_or : {A B : Type 0} → A → Result A B → A
ok_or d (Ok a) = a
ok_or d (Err b) = d

abbrev err_or : {A B : Type 0} → B → Result A B → B
err_or d (Ok a) = d
err_or d (Err b) = b

pub ok_once : {A B : Type 0} (r : Result A B) (a b : A) → r ≡ Ok a → r ≡ Ok b → a ≡ b
ok_once r a b first second = ap (ok_or a) (sym first ∙ second)

pub err_once : {A B : Type 0} (r : Result A B) (a b : B) → r ≡ Err a → r ≡ Err b → a ≡ b
err_once r a b first second = ap (err_or a) (sym first ∙ second)
