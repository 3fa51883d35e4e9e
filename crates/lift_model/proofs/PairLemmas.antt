-- A source's pair is the valid pair that its frames end in, or end in but for one plain frame.
use Rattle.std.proofs.Common.{◌≡◌, ◌+◌, Bool, true, false, refl, sym, ap, ◌∙◌, subst, arith, inl, inr, cond, List, [], ◌∷◌, ◌++◌, reverse, Option, Some, None}
use Rattle.std.specs.Prelude.{◌⊎◌}
use Rattle.std.proofs.lemmas.Bool.{and_parts, eqb-true, false_from_ne_true}
use Rattle.std.proofs.lemmas.List.{reverse-append, reverse-reverse, append_assoc}
use Rattle.lift_model.specs.Bits.{or_else}
use Rattle.lift_model.specs.Live.{Timed, Source, is_plain, is_inverted, is_pair, front_pair, newest_pair, pair_of}

-- the frames end in the valid pair x, y, or in it and one plain frame
pub record EndsInPair (source : Source) (frames : List Timed) (x y : Timed) : Type 0 where
  pub earlier : List Timed
  pub pair : is_pair source x y ≡ true
  pub at_end : (frames ≡ earlier ++ x ∷ y ∷ []) ⊎ ((z : Timed) × (is_plain source z ≡ true) × (frames ≡ earlier ++ x ∷ y ∷ z ∷ []))

abbrev Pair : Type 0
Pair = Timed × Timed

same_pair : (p q : Pair) → ◌≡◌ {A = Option Pair} (Some p) (Some q) → p ≡ q
same_pair p q e = cc

front_is : (source : Source) (h : List Timed) (x y : Timed) → front_pair source h ≡ Some (x, y)
    → (r : List Timed) × (h ≡ y ∷ x ∷ r) × (is_pair source x y ≡ true)
front_is source [] x y e = absurd (cc)
front_is source (b ∷ []) x y e = absurd (cc)
front_is source (b ∷ a ∷ r) x y e = go (is_pair source a b) refl e where
  go : (t : Bool) → is_pair source a b ≡ t → cond {A = Option Pair} t (Some (a, b)) None ≡ Some (x, y)
      → (r' : List Timed) × (b ∷ a ∷ r ≡ y ∷ x ∷ r') × (is_pair source x y ≡ true)
  go true k e =
      let same : ◌≡◌ {A = Pair} (a, b) (x, y) = same_pair (a, b) (x, y) e in
      let list : b ∷ a ∷ r ≡ y ∷ x ∷ r = ap (λ (p : Pair). p.1 ∷ p.0 ∷ r) same in
      (r, list, subst (λ (p : Pair). is_pair source p.0 p.1 ≡ true) same k)
  go false k e = absurd (cc)

turned : (frames r : List Timed) (x y : Timed) (z : List Timed) → reverse frames ≡ z ++ y ∷ x ∷ r → frames ≡ reverse r ++ x ∷ y ∷ reverse z
turned frames r x y z e =
    sym (reverse-reverse frames)
    ∙ (ap reverse e ∙ (reverse-append z (y ∷ x ∷ r)
    ∙ (ap (λ l. l ++ reverse z) (reverse-append (y ∷ x ∷ []) r) ∙ append_assoc (reverse r) (x ∷ y ∷ []) (reverse z))))

-- what is found is what the frames end in
pub found-ends : (source : Source) (frames : List Timed) (x y : Timed) → pair_of source frames ≡ Some (x, y) → EndsInPair source frames x y
found-ends source frames x y e = go (reverse frames) refl e where
  go : (h : List Timed) → reverse frames ≡ h → newest_pair source h ≡ Some (x, y) → EndsInPair source frames x y
  go [] k e = absurd (cc)
  go (z ∷ h) k e = two (front_pair source (z ∷ h)) refl e where
    two : (o : Option Pair) → front_pair source (z ∷ h) ≡ o
        → or_else o (cond (is_plain source z) (front_pair source h) None) ≡ Some (x, y) → EndsInPair source frames x y
    two (Some p) f e = let w = front_is source (z ∷ h) x y (f ∙ e) in
        record { earlier = reverse w.0; pair = w.2; at_end = inl (turned frames w.0 x y [] (k ∙ w.1)) }
    two None f e = three (is_plain source z) refl e where
      three : (b : Bool) → is_plain source z ≡ b → cond b (front_pair source h) None ≡ Some (x, y) → EndsInPair source frames x y
      three true p e =
          let w = front_is source h x y e in
          record { earlier = reverse w.0; pair = w.2; at_end = inr (z, p, turned frames w.0 x y (z ∷ []) (k ∙ ap (λ t. z ∷ t) w.1)) }
      three false p e = absurd (cc)

-- an inverted frame is not plain
not_plain : (source : Source) (y : Timed) → is_inverted source y ≡ true → is_plain source y ≡ false
not_plain source y e = false_from_ne_true (is_plain source y) (λ p.
    let i = eqb-true y.frame.id (source.plain + 1) e in
    let j = eqb-true y.frame.id source.plain p in
    omega (arith, i, j))

-- what the frames end in is found
pub ends-found : (source : Source) (frames : List Timed) (x y : Timed) → EndsInPair source frames x y → pair_of source frames ≡ Some (x, y)
unfolding is_pair
ends-found source frames x y w = elim w.at_end [
  | inl e ↦ ap (newest_pair source) (ap reverse e ∙ reverse-append w.earlier (x ∷ y ∷ [])) ∙ (rw w.pair refl)
  | inr z ↦
      (let inverted : is_inverted source y ≡ true = (and_parts _ _ (and_parts _ _ (and_parts _ _ w.pair).0).0).1 in
      let none : is_pair source y z.0 ≡ false = rw (not_plain source y inverted) refl in
      ap (newest_pair source) (ap reverse z.2 ∙ reverse-append w.earlier (x ∷ y ∷ z.0 ∷ [])) ∙ (rw (none, z.1, w.pair) refl))
]
