-- What hexadecimal digits say tells how they are spelled.
use Rattle.std.proofs.Common.{◌≡◌, ◌<◌, ◌≤◌, ◌+◌, ◌*◌, ◌/◌, ◌%◌, ◌^◌, ◌++◌, ◌==◌, List, [], ◌∷◌, ℕ, length, refl, sym, ap, ◌∙◌, arith, true, rules, nat_le, Some}
use Rattle.std.proofs.lemmas.Grind.{common_steps}
use Rattle.std.proofs.lemmas.Option.{cond_some}
use Rattle.can_frame.specs.Spelling.{hex_digit, byte_of, id_of, word_of, glyph, hex4, hex16}
use Rattle.script_model.specs.SideLines.{hex_from, long_word_of}
use Rattle.script_model.proofs.Choices.{bind_some, choose}

pub hex_inv : (b x : ℕ) → hex_digit b ≡ Some x → (x < 16) × (b ≡ glyph x)
hex_inv b x e = (grind (arith, common_steps), grind (arith, common_steps))

pub same : (a b : ℕ) → (a == b) ≡ true → a ≡ b
same a b is = grind (arith, common_steps)

byte_digits : (x1 x0 n : ℕ) → x1 < 16 → x0 < 16 → 16 * x1 + x0 ≡ n → (n < 2 ^ 8) × (x1 ≡ n / 16) × (x0 ≡ n % 16)
byte_digits x1 x0 n l1 l0 e = (omega arith, omega arith, omega arith)

pub byte_inv : (d1 d0 n : ℕ) → byte_of d1 d0 ≡ Some n → (n < 2 ^ 8) × (d1 ≡ glyph (n / 16)) × (d0 ≡ glyph (n % 16))
byte_inv d1 d0 n e =
    let (x1, h1, e1) = bind_some _ (hex_digit d1) n e in
    let (x0, h0, e0) = bind_some _ (hex_digit d0) n e1 in
    let i1 = hex_inv d1 x1 h1 in let i0 = hex_inv d0 x0 h0 in
    let sum : 16 * x1 + x0 ≡ n = cc in
    let f = byte_digits x1 x0 n i1.0 i0.0 sum in
    (f.0, i1.1 ∙ ap glyph f.1, i0.1 ∙ ap glyph f.2)

id_digits : (x2 x1 x0 n : ℕ) → x2 ≤ 7 → x1 < 16 → x0 < 16 → 256 * x2 + 16 * x1 + x0 ≡ n
    → (n ≤ 0x7FF) × (x2 ≡ n / 16 / 16) × (x1 ≡ n / 16 % 16) × (x0 ≡ n % 16)
id_digits x2 x1 x0 n l2 l1 l0 e = (omega arith, omega arith, omega arith, omega arith)

pub id_inv : (d2 d1 d0 n : ℕ) → id_of d2 d1 d0 ≡ Some n
    → (n ≤ 0x7FF) × (d2 ≡ glyph (n / 16 / 16)) × (d1 ≡ glyph (n / 16 % 16)) × (d0 ≡ glyph (n % 16))
id_inv d2 d1 d0 n e =
    let (x2, h2, e2) = bind_some _ (hex_digit d2) n e in
    let (x1, h1, e1) = bind_some _ (hex_digit d1) n e2 in
    let (x0, h0, e0) = bind_some _ (hex_digit d0) n e1 in
    let (few, sum) = cond_some (nat_le x2 7) (256 * x2 + 16 * x1 + x0) n e0 in
    let i2 = hex_inv d2 x2 h2 in let i1 = hex_inv d1 x1 h1 in let i0 = hex_inv d0 x0 h0 in
    let low : x2 ≤ 7 = search rules in
    let f = id_digits x2 x1 x0 n low i1.0 i0.0 sum in
    (f.0, i2.1 ∙ ap glyph f.1, i1.1 ∙ ap glyph f.2, i0.1 ∙ ap glyph f.3)

pub record IsHex4 (d3 d2 d1 d0 n : ℕ) : Type 0 where
  pub small : n < 2 ^ 16
  pub three : d3 ≡ glyph (n / 16 / 16 / 16)
  pub two : d2 ≡ glyph (n / 16 / 16 % 16)
  pub one : d1 ≡ glyph (n / 16 % 16)
  pub zero_ : d0 ≡ glyph (n % 16)

from_digits : (x3 x2 x1 x0 n : ℕ) → x3 < 16 → x2 < 16 → x1 < 16 → x0 < 16 → 4096 * x3 + 256 * x2 + 16 * x1 + x0 ≡ n
    → (n < 2 ^ 16) × (x3 ≡ n / 16 / 16 / 16) × (x2 ≡ n / 16 / 16 % 16) × (x1 ≡ n / 16 % 16) × (x0 ≡ n % 16)
from_digits x3 x2 x1 x0 n l3 l2 l1 l0 e = (omega arith, omega arith, omega arith, omega arith, omega arith)

pub word_inv : (d3 d2 d1 d0 n : ℕ) → word_of d3 d2 d1 d0 ≡ Some n → IsHex4 d3 d2 d1 d0 n
word_inv d3 d2 d1 d0 n e =
    let (x3, h3, e3) = bind_some _ (hex_digit d3) n e in
    let (x2, h2, e2) = bind_some _ (hex_digit d2) n e3 in
    let (x1, h1, e1) = bind_some _ (hex_digit d1) n e2 in
    let (x0, h0, e0) = bind_some _ (hex_digit d0) n e1 in
    let i3 = hex_inv d3 x3 h3 in let i2 = hex_inv d2 x2 h2 in let i1 = hex_inv d1 x1 h1 in let i0 = hex_inv d0 x0 h0 in
    let sum : 4096 * x3 + 256 * x2 + 16 * x1 + x0 ≡ n = cc in
    let f = from_digits x3 x2 x1 x0 n i3.0 i2.0 i1.0 i0.0 sum in
    record { small = f.0; three = i3.1 ∙ ap glyph f.1; two = i2.1 ∙ ap glyph f.2; one = i1.1 ∙ ap glyph f.3; zero_ = i0.1 ∙ ap glyph f.4 }

-- ---- sixteen digits

-- the first four of these digits, and the others
record Quarter (ds : List ℕ) (n more w : ℕ) : Type 0 where
  x : ℕ
  rest : List ℕ
  small : x < 2 ^ 16
  text : ds ≡ hex4 x ++ rest
  long : length rest ≡ more
  says : hex_from (65536 * n + x) rest ≡ Some w

four_digits : (a b c d x : ℕ) (rest : List ℕ) → IsHex4 a b c d x → (a ∷ b ∷ c ∷ d ∷ rest) ≡ hex4 x ++ rest
four_digits a b c d x rest is = rw (is.three, is.two, is.one, is.zero_) refl

quarter : (ds : List ℕ) (n more w : ℕ) → length ds ≡ more + 4 → hex_from n ds ≡ Some w → Quarter ds n more w
quarter (a ∷ b ∷ c ∷ d ∷ rest) n more w long e =
    let (x3, h3, e3) = bind_some _ (hex_digit a) w e in
    let (x2, h2, e2) = bind_some _ (hex_digit b) w e3 in
    let (x1, h1, e1) = bind_some _ (hex_digit c) w e2 in
    let (x0, h0, e0) = bind_some _ (hex_digit d) w e1 in
    let i3 = hex_inv a x3 h3 in let i2 = hex_inv b x2 h2 in let i1 = hex_inv c x1 h1 in let i0 = hex_inv d x0 h0 in
    let f = from_digits x3 x2 x1 x0 (4096 * x3 + 256 * x2 + 16 * x1 + x0) i3.0 i2.0 i1.0 i0.0 refl in
    let is : IsHex4 a b c d (4096 * x3 + 256 * x2 + 16 * x1 + x0) = record {
      small = f.0;
      three = i3.1 ∙ ap glyph f.1;
      two = i2.1 ∙ ap glyph f.2;
      one = i1.1 ∙ ap glyph f.3;
      zero_ = i0.1 ∙ ap glyph f.4;
    } in
    let sum : 16 * (16 * (16 * (16 * n + x3) + x2) + x1) + x0 ≡ 65536 * n + (4096 * x3 + 256 * x2 + 16 * x1 + x0) = omega arith in
    record {
      x = 4096 * x3 + 256 * x2 + 16 * x1 + x0;
      rest = rest;
      small = f.0;
      text = four_digits a b c d _ rest is;
      long = omega arith;
      says = ap (λ (k : ℕ). hex_from k rest) (sym sum) ∙ e0;
    }
quarter [] n more w long e = absurd (omega arith)
quarter (a ∷ []) n more w long e = absurd (omega arith)
quarter (a ∷ b ∷ []) n more w long e = absurd (omega arith)
quarter (a ∷ b ∷ c ∷ []) n more w long e = absurd (omega arith)

-- the parts of a word
parts_are : (x3 x2 x1 x0 w : ℕ) → x3 < 2 ^ 16 → x2 < 2 ^ 16 → x1 < 2 ^ 16 → x0 < 2 ^ 16
    → 65536 * (65536 * (65536 * (65536 * 0 + x3) + x2) + x1) + x0 ≡ w
    → (w < 2 ^ 64) × (x3 ≡ w / 65536 / 65536 / 65536) × (x2 ≡ w / 65536 / 65536 % 65536) × (x1 ≡ w / 65536 % 65536) × (x0 ≡ w % 65536)
parts_are x3 x2 x1 x0 w l3 l2 l1 l0 e = (omega arith, omega arith, omega arith, omega arith, omega arith)

last_says : (ds : List ℕ) (n w : ℕ) → length ds ≡ 0 → hex_from n ds ≡ Some w → (ds ≡ []) × (n ≡ w)
last_says [] n w long e = (refl, cc)
last_says (d ∷ ds) n w long e = absurd (omega arith)

-- the four quarters of a word
sixteen : (a b c d w : ℕ) → a ≡ w / 65536 / 65536 / 65536 → b ≡ w / 65536 / 65536 % 65536 → c ≡ w / 65536 % 65536 → d ≡ w % 65536
    → (hex4 a ++ (hex4 b ++ (hex4 c ++ hex4 d))) ≡ hex16 w
unfolding hex16
sixteen a b c d w ea eb ec ed =
    ap (λ (x : ℕ). hex4 x ++ (hex4 b ++ (hex4 c ++ hex4 d))) ea
    ∙ ap (λ (x : ℕ). hex4 (w / 65536 / 65536 / 65536) ++ (hex4 x ++ (hex4 c ++ hex4 d))) eb
    ∙ ap (λ (x : ℕ). hex4 (w / 65536 / 65536 / 65536) ++ (hex4 (w / 65536 / 65536 % 65536) ++ (hex4 x ++ hex4 d))) ec
    ∙ ap (λ (x : ℕ). hex4 (w / 65536 / 65536 / 65536)
    ++ (hex4 (w / 65536 / 65536 % 65536) ++ (hex4 (w / 65536 % 65536) ++ hex4 x))) ed

digits_inv : (ds : List ℕ) (w : ℕ) → length ds ≡ 16 → hex_from 0 ds ≡ Some w → (ds ≡ hex16 w) × (w < 2 ^ 64)
digits_inv ds w long e =
    let a = quarter ds 0 12 w (omega arith) e in
    let b = quarter a.rest (65536 * 0 + a.x) 8 w (omega (arith, a.long)) a.says in
    let c = quarter b.rest (65536 * (65536 * 0 + a.x) + b.x) 4 w (omega (arith, b.long)) b.says in
    let d = quarter c.rest (65536 * (65536 * (65536 * 0 + a.x) + b.x) + c.x) 0 w (omega (arith, c.long)) c.says in
    let last = last_says d.rest (65536 * (65536 * (65536 * (65536 * 0 + a.x) + b.x) + c.x) + d.x) w d.long d.says in
    let p = parts_are a.x b.x c.x d.x w a.small b.small c.small d.small last.1 in
    let text : ds ≡ hex4 a.x ++ (hex4 b.x ++ (hex4 c.x ++ hex4 d.x)) =
    a.text ∙ ap (λ r. hex4 a.x ++ r) (b.text ∙ ap (λ r. hex4 b.x ++ r) (c.text ∙ ap (λ r. hex4 c.x ++ r)
    (d.text ∙ ap (λ r. hex4 d.x ++ r) last.0))) in
    (text ∙ sixteen a.x b.x c.x d.x w p.1 p.2 p.3 p.4, p.0)

pub long_word_inv : (ds : List ℕ) (w : ℕ) → long_word_of ds ≡ Some w → (ds ≡ hex16 w) × (w < 2 ^ 64)
long_word_inv ds w e = choose (length ds == 16) _ _ _ e
    (λ is e'. digits_inv ds w (same (length ds) 16 is) e')
    (λ is e'. absurd cc)
