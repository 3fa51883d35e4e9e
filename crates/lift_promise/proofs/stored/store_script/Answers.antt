use Rattle.std.proofs.Common.{ℕ, ◌≡◌, ◌+◌, ◌<◌, ◌∙◌, length, refl, sym, ap, subst, arith}
use Rattle.std.specs.declared.option.Option.{Option}
use Rattle.std.specs.declared.result.Result.{Result}
use Rattle.std.specs.declared.result.Result.TheVariants.{Err}
use Rattle.lift_io.specs.Causes.{Rose}
use Rattle.record_disk.proofs.Counts.{twice}
use Rattle.record_disk.specs.Disk.{BothTold, Told}
use Rattle.record_store.specs.declared.faults.AppendFault.{AppendFault}
use Rattle.record_store.specs.declared.faults.AppendFault.TheVariants as append
use Rattle.record_store.specs.declared.faults.OpenFault.{OpenFault}
use Rattle.record_store.specs.declared.faults.OpenFault.TheVariants.{Failed, Foreign}
use Rattle.record_store.specs.declared.slot.TheConstants.{SLOTS}
use Rattle.saboteur.specs.Held.{plans_of}
use Rattle.lift_front.specs.Calls.{call}
use Rattle.lift_front.specs.declared.command.Command.TheVariants.{Store}
use Rattle.lift_front.specs.declared.ending.Ending.TheVariants.{Stopped}
use Rattle.lift_front.specs.declared.fault.Fault.TheVariants as fault
use Rattle.lift_making.specs.Jobs.{ByRounds}
use Rattle.lift_making.specs.Ways.{RunOf}
use Rattle.lift_promise.specs.Promise.{given}
use Rattle.lift_promise.specs.Storing.{Counts, HasDiskFailed, HasNoRoom, disk_call, run_changes}
use Rattle.lift_promise.proofs.LawfulRuns.{comes_to}
use Rattle.lift_promise.proofs.StoreEnds.{still, idle, opened_alone, survives_both, is_foreign, has_no_room, stores_all, not_read, no_changes, whole_has_run, whole_stops_nowhere, is_counted}
use Rattle.lift_promise.proofs.stored.store_script.Goals as goal

not_failed : {T : Type 0} (fault : OpenFault) (i : ℕ) → fault ≡ Foreign i → (r : Result T OpenFault) → r ≡ Err fault → r ≡ Err Failed → ⊥
not_failed fault i is r was other = cc

full_not_failed : {T : Type 0} (fault : AppendFault) → fault ≡ append.Full → (r : Result T AppendFault) → r ≡ Err fault
    → r ≡ Err append.Failed → ⊥
full_not_failed fault is r was other = cc

pub returns-in-Err : goal.returns-in-Err
returns-in-Err g c =
    let disk = c.args.disk.now in
    let plans = plans_of (λ x. (goal.Saboteur-dyn g x).plan x.1) c.args.crew in
    let sink = call g.K.Sink.held g.K.Sink.faults c.args.sink.now c.refuse.new.sink in
    let d = still (g.D.Disk.told disk) (g.D.Disk.calls disk) (g.D.Disk.faults disk) in
    let bare = c.refuse.ensures.run in
    rw c.refuse.ensures.ending (record {
      comes_to = λ source is. not_read (given plans source sink Store) fault.Memory c.refuse.result.run is.calm bare
          c.refuse.ensures.wrote;
      on_disk = (
        no_changes c.refuse.result.run d bare
            (idle (g.D.Disk.told disk) (g.D.Disk.calls disk) (g.D.Disk.faults disk) (g.met.D.Disk.present disk)),
        refl,
      );
    })

pub returns-in-Err-Failed : goal.returns-in-Err-Failed
returns-in-Err-Failed g c =
    let refused = c.refuse-in-Err-Failed in
    let d = disk_call g.D.Disk.told g.D.Disk.calls g.D.Disk.faults c.args.disk.now c.open-2.new.disk in
    rw refused.ensures.ending (record {
      comes_to = λ source is. record {
        bare = refused.ensures.run;
        why = (refl, (is.calm, (c.args.script, is.has)));
        wrote = refused.ensures.wrote;
      };
      on_disk = (
        no_changes refused.result.run d refused.ensures.run (opened_alone d c.open-2.ensures.any_moment c.open-2.ensures.calls),
        c.in-Err-Failed.ensures.cause.rose (ap Err c.in-Err-Failed.field-0-is),
      );
    })

pub returns-in-Err-Foreign : goal.returns-in-Err-Foreign
returns-in-Err-Foreign g c =
    let refused = c.refuse-in-Err-Foreign in
    let d = disk_call g.D.Disk.told g.D.Disk.calls g.D.Disk.faults c.args.disk.now c.open-2.new.disk in
    let it = c.in-Err-Foreign in
    let slot : it.field-0 ≡ Foreign it.slot = it.field-0-is in
    let never = not_failed it.field-0 it.slot slot (Err it.field-0) refl in
    rw refused.ensures.ending (record {
      comes_to = λ source is. record {
        bare = refused.ensures.run;
        why = (refl, (is.calm, (c.args.script, is.has)));
        wrote = refused.ensures.wrote;
      };
      on_disk = (
        no_changes refused.result.run d refused.ensures.run (opened_alone d c.open-2.ensures.any_moment c.open-2.ensures.calls),
        (
          it.ensures.cause.calm never,
          is_foreign d.told_before d.told_after (it.ensures.same never) c.open-2.ensures.any_moment it.slot
              (it.ensures.foreign it.slot (ap Err slot)),
        ),
      );
    })

pub returns-in-Ok-store_changes : goal.returns-in-Ok-store_changes
returns-in-Ok-store_changes g c =
    let told = g.D.Disk.told in
    let calls = g.D.Disk.calls in
    let run = c.run_opened-run.result in
    let xs = run_changes run in
    let n = c.in-Ok-store_changes.count in
    let len = c.in-Ok-open.store.len in
    let a = told c.args.disk.now in
    let b = told c.open-2.new.disk in
    let t = told c.store_changes.new.disk in
    let e = c.show.result in
    let plans = plans_of (λ x. (goal.Saboteur-dyn g x).plan x.1) c.args.crew in
    let sink = call g.K.Sink.held g.K.Sink.faults c.args.sink.now c.show.new.sink in
    let d = disk_call told calls g.D.Disk.faults c.args.disk.now c.store_changes.new.disk in
    let same = c.in-Ok-open.ensures.same (λ h. cc) in
    let count : n ≡ len + length xs = rw c.path.ensures at c.in-Ok-store_changes.ensures.count in
    let so = survives_both d xs b (calls c.open-2.new.disk) same c.open-2.ensures.any_moment c.open-2.ensures.calls
    (rw c.path.ensures at c.store_changes.ensures.any_moment) (rw c.path.ensures at c.store_changes.ensures.calls) in
    let ran = c.run_opened-run.ensures.ran c.args.script plans c.in-Ok.ensures.stands in
    let counts : Counts e run sink d = record {
      count = n;
      wrote = c.show.ensures.wrote;
      calm = c.in-Ok-store_changes.ensures.cause.calm (λ h. cc) ∙ c.in-Ok-open.ensures.cause.calm (λ h. cc);
      some = omega (arith, count);
      few = c.in-Ok-store_changes.ensures.within;
      stored = stores_all a b same c.open-2.ensures.any_moment xs len c.in-Ok-open.ensures.clean t n count
          (rw c.path.ensures at c.in-Ok-store_changes.ensures.acknowledged);
    } in
    record {
      comes_to = λ source is. comes_to (given plans source sink Store) e c.args.script run (whole_has_run e c.show.ensures.whole) is
          (subst (λ (o : Option ℕ). RunOf (ByRounds plans) c.args.script o run.rounds run.path.settled)
          (sym (whole_stops_nowhere e c.show.ensures.whole)) ran) (n, c.show.ensures.wrote);
      on_disk = (so, is_counted e run sink (c.store_changes.new.disk ≡ c.args.disk.now) d c.show.ensures.whole counts);
    }

pub returns-in-Err-Failed-store_changes : goal.returns-in-Err-Failed-store_changes
returns-in-Err-Failed-store_changes g c =
    let told = g.D.Disk.told in
    let calls = g.D.Disk.calls in
    let faults = g.D.Disk.faults in
    let run = c.run_opened-run.result in
    let xs = run_changes run in
    let b = told c.open-2.new.disk in
    let plans = plans_of (λ x. (goal.Saboteur-dyn g x).plan x.1) c.args.crew in
    let sink = call g.K.Sink.held g.K.Sink.faults c.args.sink.now c.stop.new.sink in
    let d = disk_call told calls faults c.args.disk.now c.store_changes.new.disk in
    let same = c.in-Ok-open.ensures.same (λ h. cc) in
    let so = survives_both d xs b (calls c.open-2.new.disk) same c.open-2.ensures.any_moment c.open-2.ensures.calls
    (rw c.path.ensures at c.store_changes.ensures.any_moment) (rw c.path.ensures at c.store_changes.ensures.calls) in
    let it = c.in-Err-Failed-store_changes in
    let failed : HasDiskFailed d = subst (λ (m : ℕ). Rose m (faults c.store_changes.new.disk))
    (c.in-Ok-open.ensures.cause.calm (λ h. cc)) (it.ensures.cause.rose (ap Err it.field-0-is)) in
    let ran = c.run_opened-run.ensures.ran c.args.script plans c.in-Ok.ensures.stands in
    rw c.stop.ensures.ending (record {
      comes_to = λ source is. comes_to (given plans source sink Store) (Stopped fault.Disk) c.args.script run tt is ran
          (0, c.stop.ensures.wrote);
      on_disk = (
        so,
        (failed, twice _ _ _ c.open-2.ensures.called (it.ensures.called (ap Err it.field-0-is))),
      );
    })

pub returns-in-Err-Full : goal.returns-in-Err-Full
returns-in-Err-Full g c =
    let told = g.D.Disk.told in
    let calls = g.D.Disk.calls in
    let run = c.run_opened-run.result in
    let xs = run_changes run in
    let len = c.in-Ok-open.store.len in
    let a = told c.args.disk.now in
    let b = told c.open-2.new.disk in
    let t = told c.store_changes.new.disk in
    let plans = plans_of (λ x. (goal.Saboteur-dyn g x).plan x.1) c.args.crew in
    let sink = call g.K.Sink.held g.K.Sink.faults c.args.sink.now c.stop-in-Err-Full.new.sink in
    let d = disk_call told calls g.D.Disk.faults c.args.disk.now c.store_changes.new.disk in
    let same = c.in-Ok-open.ensures.same (λ h. cc) in
    let so = survives_both d xs b (calls c.open-2.new.disk) same c.open-2.ensures.any_moment c.open-2.ensures.calls
    (rw c.path.ensures at c.store_changes.ensures.any_moment) (rw c.path.ensures at c.store_changes.ensures.calls) in
    let it = c.in-Err-Full in
    let no_room : it.field-0 ≡ append.Full = it.field-0-is in
    let none = it.ensures.full (ap Err no_room) in
    let many : SLOTS < len + length xs = rw c.path.ensures at none.0 in
    let as_told : t ≡ b = ap told none.1 in
    let over = subst (λ (t : Told). BothTold a t (HasNoRoom xs)) (sym as_told)
    (has_no_room a b same c.open-2.ensures.any_moment xs len c.in-Ok-open.ensures.clean many) in
    let calm = it.ensures.cause.calm (full_not_failed it.field-0 no_room (Err it.field-0) refl)
    ∙ c.in-Ok-open.ensures.cause.calm (λ h. cc) in
    let ran = c.run_opened-run.ensures.ran c.args.script plans c.in-Ok.ensures.stands in
    rw c.stop-in-Err-Full.ensures.ending (record {
      comes_to = λ source is. comes_to (given plans source sink Store) (Stopped fault.Full) c.args.script run tt is ran
          (0, c.stop-in-Err-Full.ensures.wrote);
      on_disk = (so, (calm, over));
    })
