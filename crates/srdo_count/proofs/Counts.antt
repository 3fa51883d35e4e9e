-- What one frame more does to the counts.
use Rattle.std.proofs.Common.{◌≡◌, ℕ, ◌+◌, ◌-◌, List, [], ◌∷◌, reverse, Bool, true, false, refl, ap, ◌∙◌, arith, leb, cond, Some, None}
use Rattle.std.specs.Prelude.{◌&&◌}
use Rattle.std.proofs.lemmas.Bool.{le-leb}
use Rattle.lift_model.specs.Live.{Timed, Source, is_plain, is_inverted, judges, is_pair, newest_pair, value_of, and_frame}
use Rattle.srdo_pair.proofs.Pairs.{not_plain, front_plain, or_none, pair_plain, plain_newest, inverted_newest}
use Rattle.srdo_count.specs.Counted.{newest_of, live_of, StandsFor}
use Rattle.srdo_count.specs.Steps.{is_waiting, pair_with}
use Rattle.srdo_count.specs.declared.CountSource.{CountSource}
use Rattle.srdo_count.specs.declared.Newest.TheVariants.{NotPlain, Plain, LatePlain}

waits : (source : Source) (n : ℕ) (h : List Timed) → is_waiting (newest_of source n h) ≡ front_plain source h
waits source n [] = refl
waits source n (x ∷ h) = case (is_plain source x) (leb (n + 1) (x.tick + source.srvt)) where
  case : (a b : Bool) → is_waiting (cond a (cond b (Plain x.frame (x.tick + source.srvt - (n + 1))) LatePlain) NotPlain) ≡ a
  case true true = refl
  case true false = refl
  case false b = refl

-- a pair whose second frame comes now lives for sct ticks more
fresh : (source : Source) (n : ℕ) (x y : Timed) → y.tick ≡ n + 1 → live_of source n (Some (x, y))
    ≡ Some (record { value = value_of x.frame; left = source.sct + 1 })
fresh source n x y t =
    let on : leb n (y.tick + source.sct) ≡ true = le-leb n (y.tick + source.sct) (omega arith) in
    let left : y.tick + source.sct - n ≡ source.sct + 1 = omega arith in
    rw (on, left) refl

joined : (source : Source) (n : ℕ) (x y : Timed) → is_inverted source y ≡ true → y.tick ≡ n + 1
    → live_of source n (cond (is_pair source x y) (Some (x, y)) None)
    ≡ pair_with (cond (is_plain source x) (cond (leb (n + 1) (x.tick + source.srvt))
    (Plain x.frame (x.tick + source.srvt - (n + 1))) LatePlain) NotPlain) y.frame source.sct
unfolding is_pair
joined source n x y e t =
    let at : leb y.tick (x.tick + source.srvt) ≡ leb (n + 1) (x.tick + source.srvt) = ap (λ m. leb m (x.tick + source.srvt)) t in
    rw (e, at) (case (is_plain source x) (judges x.frame y.frame) (leb (n + 1) (x.tick + source.srvt)) refl) where
      case : (p q r : Bool) → judges x.frame y.frame ≡ q → live_of source n (cond (p && true && q && r) (Some (x, y)) None)
          ≡ pair_with (cond p (cond r (Plain x.frame (x.tick + source.srvt - (n + 1))) LatePlain) NotPlain) y.frame source.sct
      case false q r h = refl
      case true false true h = rw h refl
      case true true true h = rw h (fresh source n x y t)
      case true false false h = refl
      case true true false h = refl

-- an inverted frame makes a pair with the newest frame, or none
pair_inverted : (source : Source) (n : ℕ) (y : Timed) (h : List Timed) → is_inverted source y ≡ true → y.tick ≡ n + 1
    → live_of source n (newest_pair source (y ∷ h)) ≡ pair_with (newest_of source n h) y.frame source.sct
pair_inverted source n y [] e t = rw (not_plain source y e) refl
pair_inverted source n y (x ∷ h) e t =
    rw (not_plain source y e, or_none) (joined source n x y e t)

module _ (it : CountSource) (source : Source) (frames : List Timed) (n : ℕ) (stands : StandsFor it source frames n) (x : Timed)
    (now : x.tick ≡ n + 1) where
  pub after_plain : is_plain source x ≡ true → (newest_of source n (reverse (and_frame source frames x)) ≡ Plain x.frame source.srvt)
      × (live_of source n (newest_pair source (reverse (and_frame source frames x))) ≡ cond (is_waiting it.newest) None it.live)
  after_plain h =
      let added : reverse (and_frame source frames x) ≡ x ∷ reverse frames = plain_newest source frames x h in
      let fits : leb (n + 1) (x.tick + source.srvt) ≡ true = le-leb _ _ (omega arith) in
      let left : x.tick + source.srvt - (n + 1) ≡ source.srvt = omega arith in (
        rw (added, h, fits, left) refl,
        rw added (ap (live_of source n) (pair_plain source x (reverse frames) h) ∙ pushed (front_plain source (reverse frames))
            ∙ (rw (stands.newest, waits source n (reverse frames), stands.live) refl)),
      )
    where
      pushed : (b : Bool) → live_of source n (cond b None (newest_pair source (reverse frames))) ≡ cond b None
          (live_of source n (newest_pair source (reverse frames)))
      pushed true = refl
      pushed false = refl

  pub after_inverted : is_inverted source x ≡ true → (newest_of source n (reverse (and_frame source frames x)) ≡ NotPlain)
      × (live_of source n (newest_pair source (reverse (and_frame source frames x))) ≡ pair_with it.newest x.frame it.sct)
  after_inverted h =
      let added : reverse (and_frame source frames x) ≡ x ∷ reverse frames = inverted_newest source frames x h in (
        rw (added, not_plain source x h) refl,
        rw added (pair_inverted source n x (reverse frames) h now ∙ (rw (stands.newest, stands.sct) refl)),
      )
