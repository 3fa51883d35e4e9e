-- What one frame more does to the dates.
use Rattle.std.proofs.Common.{◌≡◌, ℕ, ◌+◌, List, [], ◌∷◌, reverse, Bool, true, false, refl, ap, ◌∙◌, leb, cond, Option, Some, None}
use Rattle.std.specs.Prelude.{◌&&◌, is_some}
use Rattle.lift_model.specs.Live.{Timed, Source, is_plain, is_inverted, judges, is_pair, newest_pair, and_frame}
use Rattle.srdo_pair.proofs.Pairs.{not_plain, front_plain, pair_plain, or_none, plain_newest, inverted_newest}
use Rattle.srdo_deadline.specs.Deadlines.{until_with}
use Rattle.srdo_deadline.specs.Dated.{waiting_of, until_of, StandsFor}
use Rattle.srdo_deadline.specs.declared.DeadlineSource.{DeadlineSource}
use Rattle.srdo_deadline.specs.declared.dates.Waiting.{Waiting}

waits : (source : Source) (h : List Timed) → is_some (waiting_of source h) ≡ front_plain source h
waits source [] = refl
waits source (x ∷ h) = case (is_plain source x) where
  case : (b : Bool) → is_some (cond {A = Option Waiting} b (Some (record { frame = x.frame; came = x.tick })) None) ≡ b
  case true = refl
  case false = refl

joins : (source : Source) (y : Timed) (h : List Timed) → is_inverted source y ≡ true
    → until_of source (newest_pair source (y ∷ h)) ≡ until_with (waiting_of source h) y.frame y.tick source.srvt source.sct
unfolding is_pair
joins source y [] e = rw (not_plain source y e) refl
joins source y (x ∷ h) e = rw (not_plain source y e, or_none, e) (case (is_plain source x) (judges x.frame y.frame)
    (leb y.tick (x.tick + source.srvt)) refl refl) where
      case : (p q r : Bool) → judges x.frame y.frame ≡ q → leb y.tick (x.tick + source.srvt) ≡ r
          → until_of source (cond (p && true && q && r) (Some (x, y)) None)
          ≡ until_with (cond p (Some (record { frame = x.frame; came = x.tick })) None) y.frame y.tick source.srvt source.sct
      case false q r i j = refl
      case true true true i j = rw (i, j) refl
      case true true false i j = rw (i, j) refl
      case true false r i j = rw i refl

module _ (it : DeadlineSource) (source : Source) (frames : List Timed) (n : ℕ) (stands : StandsFor it source frames n) (x : Timed) where
  pub plain_came : is_plain source x ≡ true → (waiting_of source (reverse (and_frame source frames x))
      ≡ Some (record { frame = x.frame; came = x.tick }))
      × (until_of source (newest_pair source (reverse (and_frame source frames x))) ≡ cond (is_some it.waiting) None it.until)
  plain_came h =
      let added : reverse (and_frame source frames x) ≡ x ∷ reverse frames = plain_newest source frames x h in (
        rw (added, h) refl,
        rw added (ap (until_of source) (pair_plain source x (reverse frames) h) ∙ (pushed (front_plain source (reverse frames))
            ∙ (rw (stands.waiting, waits source (reverse frames), stands.until) refl))),
      )
    where
      pushed : (b : Bool) → until_of source (cond b None (newest_pair source (reverse frames))) ≡ cond b None
          (until_of source (newest_pair source (reverse frames)))
      pushed true = refl
      pushed false = refl

  pub inverted_came : is_inverted source x ≡ true → (waiting_of source (reverse (and_frame source frames x)) ≡ None)
      × (until_of source (newest_pair source (reverse (and_frame source frames x))) ≡ until_with it.waiting x.frame x.tick it.srvt it.sct)
  inverted_came h =
      let added : reverse (and_frame source frames x) ≡ x ∷ reverse frames = inverted_newest source frames x h in (
        rw (added, not_plain source x h) refl,
        rw added (joins source x (reverse frames) h ∙ (rw (stands.waiting, stands.srvt, stands.sct) refl)),
      )
