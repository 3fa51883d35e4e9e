-- A frame that was spelled is read again.
use Rattle.std.proofs.Common.{◌≡◌, ◌<◌, ◌≤◌, ◌+◌, ◌*◌, ◌/◌, ◌%◌, ◌^◌, ◌++◌, List, [], ◌∷◌, ℕ, length, refl, sym, ap, ◌∙◌, arith, true, rules, nat_le, nat_lt, append_assoc, append-nil, length-append}
use Rattle.std.specs.List.{AllByRecursion, flat_map}
use Rattle.std.specs.declared.option.Option.TheVariants.{Some}
use Rattle.std.proofs.lemmas.Grind.{common_steps}
use Rattle.lift_model.specs.Records.{FrameData}
use Rattle.can_frame.specs.Spelling.{hex_digit, glyph, hex2, byte_of, id_of, word_of, data_from, frame_of, frame_text}
use Rattle.can_frame.specs.Frames.{IsFrameData}

pub hex_digit-glyph : (d : ℕ) → d < 16 → hex_digit (glyph d) ≡ Some d
hex_digit-glyph d lt = grind (arith, common_steps)

pub word_of-hex4 : (n : ℕ) → n < 2 ^ 16
    → word_of (glyph (n / 16 / 16 / 16)) (glyph (n / 16 / 16 % 16)) (glyph (n / 16 % 16)) (glyph (n % 16)) ≡ Some n
word_of-hex4 n lt =
    let a : n / 16 / 16 / 16 < 16 = omega arith in
    let b : n / 16 / 16 % 16 < 16 = omega arith in
    let c : n / 16 % 16 < 16 = omega arith in
    let d : n % 16 < 16 = omega arith in
    let sum : 4096 * (n / 16 / 16 / 16) + 256 * (n / 16 / 16 % 16) + 16 * (n / 16 % 16) + n % 16 ≡ n = omega arith in
    rw (hex_digit-glyph _ a, hex_digit-glyph _ b, hex_digit-glyph _ c, hex_digit-glyph _ d) (ap Some sum)

pub id_of-hex3 : (n : ℕ) → n ≤ 0x7FF → id_of (glyph (n / 16 / 16)) (glyph (n / 16 % 16)) (glyph (n % 16)) ≡ Some n
id_of-hex3 n le =
    let b : n / 16 / 16 < 16 = omega arith in
    let c : n / 16 % 16 < 16 = omega arith in
    let d : n % 16 < 16 = omega arith in
    let few : nat_le (n / 16 / 16) 7 ≡ true = let h : n / 16 / 16 ≤ 7 = omega arith in search rules in
    let sum : 256 * (n / 16 / 16) + 16 * (n / 16 % 16) + n % 16 ≡ n = omega arith in
    rw (hex_digit-glyph _ b, hex_digit-glyph _ c, hex_digit-glyph _ d, few) (ap Some sum)

pub byte_of-hex2 : (n : ℕ) → n < 2 ^ 8 → byte_of (glyph (n / 16)) (glyph (n % 16)) ≡ Some n
byte_of-hex2 n lt =
    let c : n / 16 < 16 = omega arith in
    let d : n % 16 < 16 = omega arith in
    let sum : 16 * (n / 16) + n % 16 ≡ n = omega arith in
    rw (hex_digit-glyph _ c, hex_digit-glyph _ d) (ap Some sum)

pub data_from-hex2 : (done bytes : List ℕ) → length done + length bytes ≤ 8 → AllByRecursion (λ b. b < 2 ^ 8) bytes
    → data_from done (flat_map hex2 bytes) ≡ Some (done ++ bytes)
data_from-hex2 done [] room fits = ap Some (sym (append-nil done))
data_from-hex2 done (b ∷ bs) room fits =
    let one : nat_lt (length done) 8 ≡ true = let h : length done < 8 = omega arith in search rules in
    let grown : length (done ++ b ∷ []) ≡ length done + 1 = simp length-append in
    let more = data_from-hex2 (done ++ b ∷ []) bs (omega arith) fits.1 in
    rw (one, byte_of-hex2 b fits.0) (more ∙ ap Some (append_assoc done (b ∷ []) bs))

pub frame_of-text : (f : FrameData) → IsFrameData f → frame_of (frame_text f) ≡ Some f
frame_of-text f is = rw (id_of-hex3 f.id is.id, data_from-hex2 [] f.bytes (omega (arith, is.few)) is.bytes) refl
