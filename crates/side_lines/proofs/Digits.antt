-- The word that 16 digits write fits 64 bits.
use Rattle.std.proofs.Common.{◌<◌, ◌≤◌, ◌+◌, ◌*◌, ◌^◌, ℕ, arith}
use Rattle.std.proofs.Math.Nat.{pow-le-pow_right}

pub one_more_digit : (n i : ℕ) → n < 16 ^ i → i < 16 → 16 * n + 15 < 2 ^ 64
one_more_digit n i few more =
    let some : 0 < 16 = omega arith in
    let at : i ≤ 15 = omega arith in
    let most : 16 ^ i ≤ 16 ^ 15 = pow-le-pow_right some at in
    omega arith
