-- What one frame more does to a source's pair.
use Rattle.std.proofs.Common.{◌≡◌, ◌+◌, List, [], ◌∷◌, ◌++◌, reverse, Bool, true, false, refl, sym, arith, leb, cond, Option, Some, None, inl, inr}
use Rattle.std.specs.Prelude.{◌&&◌}
use Rattle.std.proofs.lemmas.Bool.{cases_Bool, eqb-true, ne_eqb}
use Rattle.std.proofs.lemmas.List.{reverse-append}
use Rattle.lift_model.specs.Bits.{or_else}
use Rattle.lift_model.specs.Live.{Timed, Source, is_plain, is_inverted, judges, is_pair, front_pair, newest_pair, and_frame}

pub not_inverted : (source : Source) (x : Timed) → is_plain source x ≡ true → is_inverted source x ≡ false
not_inverted source x h = let e = eqb-true x.frame.id source.plain h in ne_eqb _ _ (λ d. omega arith)

pub not_plain : (source : Source) (x : Timed) → is_inverted source x ≡ true → is_plain source x ≡ false
not_plain source x h = let e = eqb-true x.frame.id (source.plain + 1) h in ne_eqb _ _ (λ d. omega arith)

-- a plain frame is the second of no pair
no_pair_plain : (source : Source) (y z : Timed) → is_plain source z ≡ true → is_pair source y z ≡ false
unfolding is_pair
no_pair_plain source y z h = rw (not_inverted source z h) (no (is_plain source y)) where
  no : (b : Bool) → (b && false && judges y.frame z.frame && leb z.tick (y.tick + source.srvt)) ≡ false
  no true = refl
  no false = refl

-- the newest frame is a plain one
abbrev pub front_plain : Source → List Timed → Bool
front_plain source [] = false
front_plain source (x ∷ earlier) = is_plain source x

no_front : (source : Source) (z : Timed) (h : List Timed) → is_plain source z ≡ true → front_pair source (z ∷ h) ≡ None
no_front source z [] e = refl
no_front source z (y ∷ h) e = rw (no_pair_plain source y z e) refl

pub or_none : (o : Option (Timed × Timed)) → or_else o None ≡ o
or_none None = refl
or_none (Some x) = refl

-- a plain frame leaves the pair where the frame before it is not plain
pub pair_plain : (source : Source) (z : Timed) (h : List Timed) → is_plain source z ≡ true
    → newest_pair source (z ∷ h) ≡ cond (front_plain source h) None (newest_pair source h)
pair_plain source z [] e = rw e refl
pair_plain source z (y ∷ h) e =
    rw (no_front source z (y ∷ h) e, e) (elim (cases_Bool (is_plain source y)) [
      | inl p ↦ rw p (no_front source y h p)
      | inr p ↦ rw p (sym (or_none (front_pair source (y ∷ h))))
    ])

reverse_push : (frames : List Timed) (x : Timed) → reverse (frames ++ x ∷ []) ≡ x ∷ reverse frames
reverse_push frames x = reverse-append frames (x ∷ [])

-- a frame of the source becomes its newest
pub plain_newest : (source : Source) (frames : List Timed) (x : Timed) → is_plain source x ≡ true → reverse (and_frame source frames x)
    ≡ x ∷ reverse frames
plain_newest source frames x h = rw h (reverse_push frames x)

pub inverted_newest : (source : Source) (frames : List Timed) (x : Timed) → is_inverted source x ≡ true
    → reverse (and_frame source frames x) ≡ x ∷ reverse frames
inverted_newest source frames x h = rw (not_plain source x h, h) (reverse_push frames x)
