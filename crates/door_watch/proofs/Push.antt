-- What a tick does to the row.
use Rattle.std.proofs.Common.{◌≡◌, ℕ, suc, ◌+◌, List, [], ◌∷◌, ◌++◌, length, Bool, refl, sym, ap, ◌∙◌, subst, arith, min, cond, eqb}
use Rattle.std.specs.Prelude.{◌||◌, ◌&&◌, not}
use Rattle.std.proofs.lemmas.List.{length_push}
use Rattle.lift_model.specs.Latches.{is_door_stuck}
use Rattle.lift_model.specs.Watched.{WatchedTick, watched_at, are_faulty_over}
use Rattle.lift_model.proofs.TickLemmas.{Counts-next, Counts-same, Counts-full}
use Rattle.lift_model.specs.Ticks.{Counts}
use Rattle.lift_model.proofs.WatchedLemmas.{watched_at-old, watched_at-new, faulty_over-push}

pub length-push : (ticks : List WatchedTick) (x : WatchedTick) → length (ticks ++ x ∷ []) ≡ suc (length ticks)
length-push ticks x = omega (arith, length_push ticks x)

-- the row of the doors, one tick on
pub row-push : (door row : ℕ) (ticks : List WatchedTick) (x : WatchedTick)
    → Counts door (λ t. is_door_stuck (watched_at ticks t).image) (length ticks) row
    → Counts door (λ t. is_door_stuck (watched_at (ticks ++ x ∷ []) t).image) (suc (length ticks))
    (cond (is_door_stuck x.image) (min (row + 1) door) 0)
row-push door row ticks x counts =
    let later = ticks ++ x ∷ [] in
    let same = Counts-same door (λ t. is_door_stuck (watched_at ticks t).image) (λ t. is_door_stuck (watched_at later t).image)
    (length ticks) row
    (λ t a b. ap (λ (w : WatchedTick). is_door_stuck w.image) (sym (watched_at-old ticks x t b))) counts in
    let next = Counts-next door (λ t. is_door_stuck (watched_at later t).image) (length ticks) row same in
    subst (λ (w : WatchedTick). Counts door (λ t. is_door_stuck (watched_at later t).image) (suc (length ticks))
    (cond (is_door_stuck w.image) (min (row + 1) door) 0)) (watched_at-new ticks x) next

-- the doors are faulty where the row is full, or where they were and the reset doesn't rise
pub faulty-push : (door row : ℕ) (was : Bool) (ticks : List WatchedTick) (x : WatchedTick)
    → Counts door (λ t. is_door_stuck (watched_at (ticks ++ x ∷ []) t).image) (suc (length ticks)) row
    → was ≡ are_faulty_over door ticks
    → are_faulty_over door (ticks ++ x ∷ []) ≡ (eqb row door || (was && not x.rise))
faulty-push door row was ticks x counts same =
    faulty_over-push door ticks x ∙ (rw (Counts-full door _ _ row counts, same) refl)
