-- The detail of a command word is read back.
use Rattle.std.proofs.Common.{◌≡◌, ℕ, ◌+◌, ◌*◌, ◌/◌, ◌%◌, ◌^◌, ◌<◌, arith}
use Rattle.lift_base.specs.declared.Kind.{Kind}
use Rattle.lift_base.specs.declared.Kind.TheVariants.{Off, Full, Up, Down}
use Rattle.core_model.specs.Words.{kind_code, bit_of, CommandData, command_word, detail_of}

detail_field : (s k r d a : ℕ) → s < 2 ^ 24 → k < 4 → r < 64 → d < 256
    → (s + k * 2 ^ 24 + r * 2 ^ 26 + d * 2 ^ 32 + a * 2 ^ 40) / 2 ^ 32 % 256 ≡ d
detail_field s k r d a h i j l = omega arith

kind_small : (k : Kind) → kind_code k < 4
kind_small Off = omega arith
kind_small Full = omega arith
kind_small Up = omega arith
kind_small Down = omega arith

pub detail_of-command : (c : CommandData) → c.stamp < 2 ^ 24 → c.reason < 64 → c.detail < 256 → detail_of (command_word c) ≡ c.detail
detail_of-command c h i j = detail_field c.stamp (kind_code c.kind) c.reason c.detail (bit_of c.alarm) h (kind_small c.kind) i j
