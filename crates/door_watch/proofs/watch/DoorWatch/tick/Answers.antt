use Rattle.std.proofs.Common.{◌≡◌, ℕ, suc, [], ◌∷◌, ◌++◌, ◌+◌, List, length, refl, sym, ap, ◌∙◌, subst, min, cond}
use Rattle.lift_model.specs.Latches.{is_door_stuck}
use Rattle.lift_model.specs.Watched.{WatchedTick, watched_at}
use Rattle.lift_model.specs.Ticks.{Counts}
use Rattle.door_watch.proofs.Push.{length-push, row-push, faulty-push}
use Rattle.door_watch.proofs.watch.DoorWatch.tick.Goals as goal

pub returns : goal.returns
returns c door ticks h =
    let x : WatchedTick = record { image = c.args.image.now; rise = c.args.reset_rise } in
    let is_row : c.row_after-row.result ≡ cond (is_door_stuck x.image) (min (c.args.self.now.row + 1) door) 0 =
    c.row_after-row.ensures ∙ (rw (c.is_stuck.ensures, h.same_door) refl) in
    let row : Counts door (λ t. is_door_stuck (watched_at (ticks ++ x ∷ []) t).image) (suc (length ticks)) c.row_after-row.result =
    subst (Counts door (λ t. is_door_stuck (watched_at (ticks ++ x ∷ []) t).image) (suc (length ticks))) (sym is_row)
    (row-push door c.args.self.now.row ticks x h.row) in
    record {
      same_door = h.same_door;
      row = rw (length-push ticks x) row;
      faulty = c.latch_after-self.ensures ∙ (rw h.same_door (sym (faulty-push door _ _ ticks x row h.faulty)));
    }
