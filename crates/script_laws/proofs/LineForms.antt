-- What a line says tells how it is spelled.
use Rattle.std.proofs.Common.{◌≡◌, ◌<◌, ◌≤◌, ◌+◌, ◌-◌, ◌/◌, ◌%◌, ◌^◌, ◌++◌, ◌==◌, ◌&&◌, List, [], ◌∷◌, ℕ, length, refl, sym, ap, ◌∙◌, arith, true, false, Bool, codes, decimal, append_assoc, rules, nat_lt, nat_le, append-nil, length-append, subst}
use Rattle.std.specs.List.{flat_map, AllByRecursion}
use Rattle.std.specs.declared.option.Option.TheVariants.{Some}
use Rattle.std.proofs.lemmas.Grind.{common_steps}
use Rattle.std.proofs.lemmas.Option.{cond_some}
use Rattle.lift_base.specs.declared.limits.TheConstants.{MOST_TICKS}
use Rattle.can_frame.specs.Frames.{IsFrameData}
use Rattle.lift_model.specs.Records.{FrameData}
use Rattle.can_frame.specs.Spelling.{byte_of, id_of, word_of, glyph, hex2, data_from, frame_of, frame_text}
use Rattle.script_model.specs.Numbers.{number_of}
use Rattle.script_model.specs.declared.Line.{Line}
use Rattle.script_model.specs.declared.Line.TheVariants.{Tick, End, Entry}
use Rattle.script_model.specs.declared.Entry.TheVariants.{Blank, Frame, Wires, Truth, OfSide}
use Rattle.script_model.specs.declared.Entry.{Entry as EntryLine}
use Rattle.script_model.specs.Lines.{line_of, frame_line, wires_line, truth_line, tick_line, end_line, side_line}
use Rattle.script_model.specs.SideLines.{side_line_of}
use Rattle.script_model.specs.Text.{wires_text, truth_text, side_line_text}
use Rattle.script_model.specs.Valid.{IsSideLine}
use Rattle.script_laws.specs.Spelling.{BeginsRemark, ticks_line}
use Rattle.script_model.proofs.Choices.{bind_some, choose}
use Rattle.script_laws.proofs.DigitForms.{same, byte_inv, id_inv, IsHex4, word_inv}
use Rattle.script_laws.proofs.NumberForms.{number_inv}
use Rattle.script_laws.proofs.SideForms.{side_line_inv}

-- ---- frames

record IsPairs (done pairs all : List ℕ) : Type 0 where
  bytes : List ℕ
  whole : all ≡ done ++ bytes
  text : pairs ≡ flat_map hex2 bytes
  fits : AllByRecursion (λ b. b < 2 ^ 8) bytes
  few : length all ≤ 8

pair_text : (x y b : ℕ) (pairs bytes : List ℕ) → x ≡ glyph (b / 16) → y ≡ glyph (b % 16) → pairs ≡ flat_map hex2 bytes
    → (x ∷ y ∷ pairs) ≡ flat_map hex2 (b ∷ bytes)
pair_text x y b pairs bytes e1 e0 e = rw (e1, e0, e) refl

frame_text_is : (a b c h id : ℕ) (pairs bytes : List ℕ) → a ≡ glyph (id / 16 / 16) → b ≡ glyph (id / 16 % 16) → c ≡ glyph (id % 16) → h ≡ 35
    → pairs ≡ flat_map hex2 bytes → (a ∷ b ∷ c ∷ h ∷ pairs) ≡ frame_text (record { id = id; bytes = bytes })
frame_text_is a b c h id pairs bytes e2 e1 e0 mark e = rw (e2, e1, e0, mark, e) refl

pairs_inv : (done pairs all : List ℕ) → length done ≤ 8 → data_from done pairs ≡ Some all → IsPairs done pairs all
pairs_inv done [] all room e =
    let is : done ≡ all = cc in
    record { bytes = []; whole = sym is ∙ sym (append-nil done); text = refl; fits = tt; few = grind (arith, ap length is) }
pairs_inv done (x ∷ []) all room e = absurd cc
pairs_inv done (x ∷ y ∷ pairs) all room e = choose (nat_lt (length done) 8) _ _ _ e
    (λ is e'.
    let less : length done < 8 = search rules in
    let (b, hb, eb) = bind_some _ (byte_of x y) all e' in
    let digits = byte_inv x y b hb in
    let grown : length (done ++ b ∷ []) ≡ length done + 1 = simp length-append in
    let r = pairs_inv (done ++ b ∷ []) pairs all (omega arith) eb in
    record {
      bytes = b ∷ r.bytes;
      whole = r.whole ∙ append_assoc done (b ∷ []) r.bytes;
      text = pair_text x y b pairs r.bytes digits.1 digits.2 r.text;
      fits = (digits.0, r.fits);
      few = r.few;
    })
    (λ is e'. absurd cc)

pub frame_inv : (text : List ℕ) (f : FrameData) → frame_of text ≡ Some f → (text ≡ frame_text f) × IsFrameData f
frame_inv (a ∷ b ∷ c ∷ h ∷ pairs) f e = choose (h == 35) _ _ _ e
    (λ is e'.
    let (id, hi, ei) = bind_some _ (id_of a b c) f e' in
    let (bytes, hb, eb) = bind_some _ (data_from [] pairs) f ei in
    let i = id_inv a b c id hi in
    let p = pairs_inv [] pairs bytes (omega arith) hb in
    let f_is : record { id = id; bytes = bytes } ≡ f = cc in
    let text : pairs ≡ flat_map hex2 bytes = p.text ∙ ap (flat_map hex2) (sym p.whole) in
    let fits : AllByRecursion (λ n. n < 2 ^ 8) bytes = rw p.whole p.fits in
    subst (λ (x : FrameData). ((a ∷ b ∷ c ∷ h ∷ pairs) ≡ frame_text x) × IsFrameData x) f_is
    (frame_text_is a b c h id pairs bytes i.1 i.2 i.3 (same h 35 is) text, record { id = i.0; few = p.few; bytes = fits }))
    (λ is e'. absurd cc)
frame_inv _ f e = absurd cc

-- ---- lines

-- how a line is spelled that says this
abbrev pub Spells : List ℕ → Line → Type 0
Spells line (Entry Blank) = BeginsRemark line
Spells line (Entry (Frame f)) = (line ≡ codes "f " ++ frame_text f) × IsFrameData f
Spells line (Entry (Wires a b)) = (line ≡ wires_text (record { a = a; b = b })) × (a < 2 ^ 16) × (b < 2 ^ 16)
Spells line (Entry (Truth j w)) = (line ≡ truth_text j w) × (1 ≤ j) × (j ≤ 6) × (w < 2 ^ 16)
Spells line (Entry (OfSide side l)) = (line ≡ side_line_text side l) × IsSideLine l
Spells line (Tick n) = (line ≡ ticks_line n) × (1 ≤ n) × (n ≤ MOST_TICKS)
Spells line End = line ≡ codes "e"

both : (c d s t : ℕ) (rest more : List ℕ) → c ≡ d → s ≡ t → rest ≡ more → (c ∷ s ∷ rest) ≡ d ∷ t ∷ more
both c d s t rest more ec es e = rw (ec, es, e) refl

frame_spells : (c : ℕ) (rest : List ℕ) (l : Line) → c ≡ 102 → frame_line rest ≡ Some l → Spells (c ∷ rest) l
frame_spells c [] l is e = absurd cc
frame_spells c (s ∷ text) l is e = choose (s == 32) _ _ _ e
    (λ space e'.
    let (f, hf, ef) = bind_some _ (frame_of text) l e' in
    let i = frame_inv text f hf in
    let l_is : Entry (Frame f) ≡ l = cc in
    subst (Spells (c ∷ s ∷ text)) l_is (both c 102 s 32 text (frame_text f) is (same s 32 space) i.0, i.1))
    (λ other e'. absurd cc)

two_tests : (a b : Bool) → (a && b) ≡ true → (a ≡ true) × (b ≡ true)
two_tests true true h = (refl, refl)
two_tests _ _ h = absurd cc

wires_text_is : (c s p a3 a2 a1 a0 b3 b2 b1 b0 a b : ℕ) → c ≡ 119 → s ≡ 32 → p ≡ 32 → IsHex4 a3 a2 a1 a0 a → IsHex4 b3 b2 b1 b0 b
    → (c ∷ s ∷ a3 ∷ a2 ∷ a1 ∷ a0 ∷ p ∷ b3 ∷ b2 ∷ b1 ∷ b0 ∷ []) ≡ wires_text (record { a = a; b = b })
wires_text_is c s p a3 a2 a1 a0 b3 b2 b1 b0 a b ec es ep i k =
    rw (ec, es, ep, i.three, i.two, i.one, i.zero_, k.three, k.two, k.one, k.zero_) refl

truth_text_is : (c s p j i d3 d2 d1 d0 w : ℕ) → c ≡ 117 → s ≡ 32 → p ≡ 32 → j ≡ i + 48 → IsHex4 d3 d2 d1 d0 w
    → (c ∷ s ∷ j ∷ p ∷ d3 ∷ d2 ∷ d1 ∷ d0 ∷ []) ≡ truth_text i w
truth_text_is c s p j i d3 d2 d1 d0 w ec es ep ej k = rw (ec, es, ep, ej, k.three, k.two, k.one, k.zero_) refl

wires_spells : (c : ℕ) (rest : List ℕ) (l : Line) → c ≡ 119 → wires_line rest ≡ Some l → Spells (c ∷ rest) l
wires_spells c (s ∷ a3 ∷ a2 ∷ a1 ∷ a0 ∷ p ∷ b3 ∷ b2 ∷ b1 ∷ b0 ∷ []) l is e = choose ((s == 32) && (p == 32)) _ _ _ e
    (λ spaces e'.
    let t = two_tests (s == 32) (p == 32) spaces in
    let (a, ha, ea) = bind_some _ (word_of a3 a2 a1 a0) l e' in
    let (b, hb, eb) = bind_some _ (word_of b3 b2 b1 b0) l ea in
    let i = word_inv a3 a2 a1 a0 a ha in
    let k = word_inv b3 b2 b1 b0 b hb in
    let l_is : Entry (Wires a b) ≡ l = cc in
    subst (Spells (c ∷ s ∷ a3 ∷ a2 ∷ a1 ∷ a0 ∷ p ∷ b3 ∷ b2 ∷ b1 ∷ b0 ∷ [])) l_is
    (wires_text_is c s p a3 a2 a1 a0 b3 b2 b1 b0 a b is (same s 32 t.0) (same p 32 t.1) i k, i.small, k.small))
    (λ other e'. absurd cc)
wires_spells c _ l is e = absurd cc

source_of : (j : ℕ) → nat_le 49 j ≡ true → nat_le j 54 ≡ true → (j ≡ j - 48 + 48) × (1 ≤ j - 48) × (j - 48 ≤ 6)
source_of j low high =
    let a : 49 ≤ j = search rules in
    let b : j ≤ 54 = search rules in
    (omega arith, omega arith, omega arith)

truth_spells : (c : ℕ) (rest : List ℕ) (l : Line) → c ≡ 117 → truth_line rest ≡ Some l → Spells (c ∷ rest) l
truth_spells c (s ∷ j ∷ p ∷ d3 ∷ d2 ∷ d1 ∷ d0 ∷ []) l is e = choose ((s == 32) && ((p == 32) && (nat_le 49 j && nat_le j 54))) _ _ _ e
    (λ tests e'.
    let t = two_tests (s == 32) ((p == 32) && (nat_le 49 j && nat_le j 54)) tests in
    let u = two_tests (p == 32) (nat_le 49 j && nat_le j 54) t.1 in
    let v = two_tests (nat_le 49 j) (nat_le j 54) u.1 in
    let source = source_of j v.0 v.1 in
    let (w, hw, ew) = bind_some _ (word_of d3 d2 d1 d0) l e' in
    let k = word_inv d3 d2 d1 d0 w hw in
    let l_is : Entry (Truth (j - 48) w) ≡ l = cc in
    subst (Spells (c ∷ s ∷ j ∷ p ∷ d3 ∷ d2 ∷ d1 ∷ d0 ∷ [])) l_is
    (truth_text_is c s p j (j - 48) d3 d2 d1 d0 w is (same s 32 t.0) (same p 32 u.0) source.0 k, source.1, source.2, k.small))
    (λ other e'. absurd cc)
truth_spells c _ l is e = absurd cc

pub many_ticks : (n : ℕ) → 2 ≤ n → ticks_line n ≡ codes "t " ++ decimal n
many_ticks n many = let h : (n == 1) ≡ false = grind (arith, common_steps) in rw h refl

tick_spells : (c : ℕ) (rest : List ℕ) (l : Line) → c ≡ 116 → tick_line rest ≡ Some l → Spells (c ∷ rest) l
tick_spells c [] l is e = let l_is : Tick 1 ≡ l = cc in subst (Spells (c ∷ [])) l_is (rw is refl, omega arith, omega arith)
tick_spells c (s ∷ digits) l is e = choose (s == 32) _ _ _ e
    (λ space e'.
    let (n, hn, en) = bind_some _ (number_of digits) l e' in
    let (many, tick) = cond_some (nat_le 2 n) (Tick n) l en in
    let i = number_inv digits n hn in
    let least : 2 ≤ n = search rules in
    let text : (c ∷ s ∷ digits) ≡ codes "t " ++ decimal n = both c 116 s 32 digits (decimal n) is (same s 32 space) i.1 in
    subst (Spells (c ∷ s ∷ digits)) tick (text ∙ sym (many_ticks n least), omega arith, i.0))
    (λ other e'. absurd cc)

end_spells : (c : ℕ) (rest : List ℕ) (l : Line) → c ≡ 101 → end_line rest ≡ Some l → Spells (c ∷ rest) l
end_spells c [] l is e = let l_is : End ≡ l = cc in subst (Spells (c ∷ [])) l_is (rw is refl)
end_spells c (s ∷ rest) l is e = absurd cc

side_spells : (c : ℕ) (rest : List ℕ) (l : Line) → side_line c rest ≡ Some l → Spells (c ∷ rest) l
side_spells c rest l e =
    let (entry, he, e') = bind_some _ (side_line_of c rest) l e in
    let i = side_line_inv c rest entry he in
    let l_is : Entry (OfSide i.side i.line) ≡ l = ap (λ (x : EntryLine). Entry x) (sym i.says) ∙ cc in
    subst (Spells (c ∷ rest)) l_is (i.text, i.fits)

-- each line that says something is spelled so
pub line_spells : (line : List ℕ) (l : Line) → line_of line ≡ Some l → Spells line l
line_spells [] l e = let l_is : Entry Blank ≡ l = cc in subst (Spells []) l_is tt
line_spells (c ∷ rest) l e = choose (c == 35) _ _ _ e
    (λ is e'. let l_is : Entry Blank ≡ l = cc in subst (Spells (c ∷ rest)) l_is (same c 35 is))
    (λ other e'. choose (c == 102) _ _ _ e' (λ is. frame_spells c rest l (same c 102 is))
    (λ other' e2. choose (c == 119) _ _ _ e2 (λ is. wires_spells c rest l (same c 119 is))
    (λ other2 e3. choose (c == 117) _ _ _ e3 (λ is. truth_spells c rest l (same c 117 is))
    (λ other3 e4. choose (c == 116) _ _ _ e4 (λ is. tick_spells c rest l (same c 116 is))
    (λ other4 e5. choose (c == 101) _ _ _ e5 (λ is. end_spells c rest l (same c 101 is)) (λ other5 e6. side_spells c rest l e6))))))
