-- Words of 64 bits are read as they were written.
use Rattle.std.proofs.Common.{◌≡◌, ◌<◌, ◌+◌, ◌*◌, ◌/◌, ◌%◌, ◌^◌, ◌++◌, List, [], ℕ, ap, ◌∙◌, arith, Some}
use Rattle.can_frame.specs.Spelling.{hex4, hex16}
use Rattle.can_frame.proofs.Spelled.{hex_digit-glyph}
use Rattle.script_model.specs.SideLines.{hex_from, long_word_of}

-- four digits more
hex_from-hex4 : (n w : ℕ) (rest : List ℕ) → w < 2 ^ 16 → hex_from n (hex4 w ++ rest) ≡ hex_from (65536 * n + w) rest
hex_from-hex4 n w rest lt =
    let a : w / 16 / 16 / 16 < 16 = omega arith in
    let b : w / 16 / 16 % 16 < 16 = omega arith in
    let c : w / 16 % 16 < 16 = omega arith in
    let d : w % 16 < 16 = omega arith in
    let sum : 16 * (16 * (16 * (16 * n + w / 16 / 16 / 16) + w / 16 / 16 % 16) + w / 16 % 16) + w % 16 ≡ 65536 * n + w = omega arith in
    rw (hex_digit-glyph _ a, hex_digit-glyph _ b, hex_digit-glyph _ c, hex_digit-glyph _ d) (ap (λ (k : ℕ). hex_from k rest) sum)

pub long_word_of-hex16 : (w : ℕ) → w < 2 ^ 64 → long_word_of (hex16 w) ≡ Some w
unfolding hex16
long_word_of-hex16 w lt =
    let a = w / 65536 / 65536 / 65536 in
    let b = w / 65536 / 65536 % 65536 in
    let c = w / 65536 % 65536 in
    let d = w % 65536 in
    let sum : 65536 * (65536 * (65536 * (65536 * 0 + a) + b) + c) + d ≡ w = omega arith in
    hex_from-hex4 0 a (hex4 b ++ (hex4 c ++ hex4 d)) (omega arith)
    ∙ hex_from-hex4 (65536 * 0 + a) b (hex4 c ++ hex4 d) (omega arith)
    ∙ hex_from-hex4 (65536 * (65536 * 0 + a) + b) c (hex4 d) (omega arith)
    ∙ hex_from-hex4 (65536 * (65536 * (65536 * 0 + a) + b) + c) d [] (omega arith)
    ∙ ap Some sum
