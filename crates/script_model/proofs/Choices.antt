-- Where a choice and an option that leads on come from.
use Rattle.std.proofs.Common.{◌≡◌, true, false, Bool, if◌then◌else◌, refl}
use Rattle.std.specs.Option.{option_and_then}
use Rattle.std.specs.declared.option.Option.{Option}
use Rattle.std.specs.declared.option.Option.TheVariants.{None, Some}

pub bind_some : {A B : Type 0} (f : A → Option B) (o : Option A) (y : B) → option_and_then f o ≡ Some y
    → (x : A) × (o ≡ Some x) × (f x ≡ Some y)
bind_some f None y e = absurd cc
bind_some f (Some x) y e = (x, refl, e)

-- each way that a choice can go
pub choose : {A P : Type 0} (t : Bool) (x y o : A) → (if t then x else y) ≡ o → (t ≡ true → x ≡ o → P) → (t ≡ false → y ≡ o → P) → P
choose true x y o e if_so if_not = if_so refl e
choose false x y o e if_so if_not = if_not refl e

-- a choice has what both ways have
pub either : {A : Type 0} (P : A → Type 0) (t : Bool) (x y : A) → P x → P y → P (if t then x else y)
either P true x y if_so if_not = if_so
either P false x y if_so if_not = if_not

-- the same, where each way may use how it was chosen
pub either_by : {A : Type 0} (P : A → Type 0) (t : Bool) (x y : A) → (t ≡ true → P x) → (t ≡ false → P y) → P (if t then x else y)
either_by P true x y if_so if_not = if_so refl
either_by P false x y if_so if_not = if_not refl
