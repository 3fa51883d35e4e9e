-- One more tick is looked at.
use Rattle.std.proofs.Common.{◌≡◌, ℕ, suc, ◌+◌, refl, arith, Bool, if◌then◌else◌, Some, None}
use Rattle.lift_model.specs.Bits.{or_else}
use Rattle.fault_runs.specs.Lines.{first_to, count_to}

pub first_more : (s : ℕ) (p : ℕ → Bool) → or_else (first_to s p) (if p (s + 1) then Some (s + 1) else None) ≡ first_to (s + 1) p
first_more s p = let e : s + 1 ≡ suc s = omega arith in rw e refl

pub count_more : (s : ℕ) (p : ℕ → Bool) → count_to s p + (if p (s + 1) then 1 else 0) ≡ count_to (s + 1) p
count_more s p = let e : s + 1 ≡ suc s = omega arith in rw e refl
