-- What a line of one side says tells how it is spelled.
use Rattle.std.proofs.Common.{◌≡◌, ◌==◌, List, [], ◌∷◌, ℕ, refl, sym, ap, ◌∙◌, subst, true, false, codes, Option, Some}
use Rattle.std.specs.Option.{option_and_then}
use Rattle.std.specs.Str.{bytes_eq}
use Rattle.std.proofs.lemmas.Slice.Eq.{bytes_eq-Decides}
use Rattle.lift_model.specs.Enums.{Side, A, B, Override, Follow, Force, Off, Full, Up, Down}
use Rattle.round_model.specs.Turns.{is_keep}
use Rattle.script_model.specs.declared.Entry.{Entry}
use Rattle.script_model.specs.declared.Entry.TheVariants.{OfSide}
use Rattle.script_model.specs.declared.sides.SideLine.{SideLine}
use Rattle.script_model.specs.declared.sides.SideLine.TheVariants.{Exchange, Fail, Hold, Word, Value, Contactor, Give, Dismiss, Sample, Publish, Look, Command}
use Rattle.script_model.specs.Numbers.{place_of}
use Rattle.script_model.specs.SideLines.{side_of, long_word_of, order_of, bare_line, line_with, line_behind, side_line_of}
use Rattle.script_model.specs.Text.{letter_of, order_name, side_line_text}
use Rattle.script_model.specs.Valid.{IsSideLine}
use Rattle.script_model.proofs.Choices.{bind_some, choose}
use Rattle.script_laws.proofs.DigitForms.{same, long_word_inv}
use Rattle.script_laws.proofs.NumberForms.{place_inv}

side_inv : (b : ℕ) (side : Side) → side_of b ≡ Some side → b ≡ letter_of side
side_inv b side e =
    choose (b == 65) _ _ _ e (λ is e'. let side_is : A ≡ side = cc in same b 65 is ∙ ap letter_of side_is)
    (λ no e1. choose (b == 66) _ _ _ e1 (λ is e'. let side_is : B ≡ side = cc in same b 66 is ∙ ap letter_of side_is)
    (λ no e2. absurd cc))

-- a name and its order
record IsNamed (name : List ℕ) (order : Override) : Type 0 where
  text : name ≡ order_name order
  told : is_keep order ≡ false

named : (o order : Override) (name text : List ℕ) → bytes_eq name text ≡ true → text ≡ order_name o → is_keep o ≡ false
    → Some o ≡ Some order → IsNamed name order
named o order name text is says told e =
    let order_is : o ≡ order = cc in
    subst (IsNamed name) order_is (record { text = (bytes_eq-Decides name text).0 is ∙ says; told = told })

order_inv : (name : List ℕ) (order : Override) → order_of name ≡ Some order → IsNamed name order
order_inv name order e =
    choose (bytes_eq name (codes "off")) _ _ _ e (λ is e'. named (Force Off) order name _ is refl refl e')
    (λ no e1. choose (bytes_eq name (codes "full")) _ _ _ e1 (λ is e'. named (Force Full) order name _ is refl refl e')
    (λ no e2. choose (bytes_eq name (codes "up")) _ _ _ e2 (λ is e'. named (Force Up) order name _ is refl refl e')
    (λ no e3. choose (bytes_eq name (codes "down")) _ _ _ e3 (λ is e'. named (Force Down) order name _ is refl refl e')
    (λ no e4. choose (bytes_eq name (codes "follow")) _ _ _ e4 (λ is e'. named Follow order name _ is refl refl e')
    (λ no e5. absurd cc)))))

-- a letter and what follows the side are spelled as this line of the side
record IsLine (c : ℕ) (more : List ℕ) (l : SideLine) : Type 0 where
  text : (side : Side) → (c ∷ 32 ∷ letter_of side ∷ more) ≡ side_line_text side l
  fits : IsSideLine l

bare : (c k : ℕ) (b l : SideLine) → (c == k) ≡ true → ((side : Side) → (k ∷ 32 ∷ letter_of side ∷ []) ≡ side_line_text side b)
    → IsSideLine b
    → Some b ≡ Some l → IsLine c [] l
bare c k b l is says fits e =
    let l_is : b ≡ l = cc in
    subst (IsLine c []) l_is
    (record { text = λ side. ap (λ (x : ℕ). x ∷ 32 ∷ letter_of side ∷ []) (same c k is) ∙ says side; fits = fits })

bare_inv : (c : ℕ) (l : SideLine) → bare_line c ≡ Some l → IsLine c [] l
bare_inv c l e =
    choose (c == 114) _ _ _ e (λ is e'. bare c 114 Exchange l is (λ side. refl) tt e')
    (λ no e0. choose (c == 120) _ _ _ e0 (λ is e'. bare c 120 Fail l is (λ side. refl) tt e')
    (λ no e1. choose (c == 104) _ _ _ e1 (λ is e'. bare c 104 Hold l is (λ side. refl) tt e')
    (λ no e2. choose (c == 100) _ _ _ e2 (λ is e'. bare c 100 Dismiss l is (λ side. refl) tt e')
    (λ no e3. choose (c == 115) _ _ _ e3 (λ is e'. bare c 115 Sample l is (λ side. refl) tt e')
    (λ no e4. choose (c == 113) _ _ _ e4 (λ is e'. bare c 113 Publish l is (λ side. refl) tt e')
    (λ no e5. choose (c == 108) _ _ _ e5 (λ is e'. bare c 108 Look l is (λ side. refl) tt e')
    (λ no e6. choose (c == 107) _ _ _ e6 (λ is e'. bare c 107 Command l is (λ side. refl) tt e')
    (λ no e7. absurd cc))))))))

-- a letter, and a part that is spelled so
with_part : {A : Type 0} (c k : ℕ) (part : List ℕ) (l : SideLine) (f : A → SideLine) (text : A → List ℕ) (o : Option A) → (c == k) ≡ true
    → ((a : A) → o ≡ Some a → (part ≡ text a) × IsSideLine (f a))
    → ((a : A) (side : Side) → (k ∷ 32 ∷ letter_of side ∷ 32 ∷ text a) ≡ side_line_text side (f a))
    → option_and_then (λ a. Some (f a)) o ≡ Some l → IsLine c (32 ∷ part) l
with_part c k part l f text o is inv says e =
    let (a, ha, ea) = bind_some _ o l e in
    let i = inv a ha in
    let l_is : f a ≡ l = cc in
    subst (IsLine c (32 ∷ part)) l_is (record {
      text = λ side. ap (λ (x : ℕ). x ∷ 32 ∷ letter_of side ∷ 32 ∷ part) (same c k is)
          ∙ ap (λ (x : List ℕ). k ∷ 32 ∷ letter_of side ∷ 32 ∷ x) i.0 ∙ says a side;
      fits = i.1;
    })

with_inv : (c : ℕ) (part : List ℕ) (l : SideLine) → line_with c part ≡ Some l → IsLine c (32 ∷ part) l
with_inv c part l e =
    choose (c == 112) _ _ _ e
    (λ is e'. with_part c 112 part l Word _ (long_word_of part) is (long_word_inv part) (λ w side. refl) e')
    (λ no e1. choose (c == 109) _ _ _ e1
    (λ is e'. with_part c 109 part l Value _ (long_word_of part) is (long_word_inv part) (λ w side. refl) e')
    (λ no e2. choose (c == 99) _ _ _ e2
    (λ is e'. with_part c 99 part l Contactor _ (order_of part) is (λ o h. let n = order_inv part o h in (n.text, n.told))
    (λ o side. refl) e')
    (λ no e3. choose (c == 103) _ _ _ e3
    (λ is e'. with_part c 103 part l Give _ (place_of part) is (place_inv part) (λ i side. refl) e')
    (λ no e4. absurd cc))))

behind_inv : (c : ℕ) (more : List ℕ) (l : SideLine) → line_behind c more ≡ Some l → IsLine c more l
behind_inv c [] l e = bare_inv c l e
behind_inv c (s ∷ part) l e = choose (s == 32) _ _ _ e
    (λ is e'. subst (λ (x : ℕ). IsLine c (x ∷ part) l) (sym (same s 32 is)) (with_inv c part l e'))
    (λ no e'. absurd cc)

-- the side and the line that are spelled so
pub record IsOfSide (bytes : List ℕ) (entry : Entry) : Type 0 where
  pub side : Side
  pub line : SideLine
  pub says : entry ≡ OfSide side line
  pub text : bytes ≡ side_line_text side line
  pub fits : IsSideLine line

pub side_line_inv : (c : ℕ) (rest : List ℕ) (entry : Entry) → side_line_of c rest ≡ Some entry → IsOfSide (c ∷ rest) entry
side_line_inv c (s ∷ b ∷ more) entry e = choose (s == 32) _ _ _ e
    (λ is e'.
    let (side, hs, es) = bind_some _ (side_of b) entry e' in
    let (l, hl, el) = bind_some _ (line_behind c more) entry es in
    let i = behind_inv c more l hl in
    record {
      side = side;
      line = l;
      says = cc;
      text = ap (λ (x : ℕ). c ∷ x ∷ b ∷ more) (same s 32 is) ∙ ap (λ (x : ℕ). c ∷ 32 ∷ x ∷ more) (side_inv b side hs) ∙ i.text side;
      fits = i.fits;
    })
    (λ no e'. absurd cc)
side_line_inv c _ entry e = absurd cc
