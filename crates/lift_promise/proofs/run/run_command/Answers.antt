use Rattle.std.proofs.Common.{◌≡◌, refl}
use Rattle.saboteur.specs.Held.{plans_of}
use Rattle.lift_front.specs.Calls.{call}
use Rattle.lift_making.specs.Jobs.{job_of}
use Rattle.lift_promise.specs.Promise.{given}
use Rattle.lift_promise.proofs.StoreEnds.{still, idle, not_read, idle_disk, shows_alone}
use Rattle.lift_promise.proofs.run.run_command.Goals as goal

pub returns-in-Err : goal.returns-in-Err
returns-in-Err g c =
    let disk = c.args.disk.now in
    let plans = plans_of (λ x. (goal.Saboteur-dyn g x).plan x.1) c.args.crew in
    let source = call g.S.Source.left g.S.Source.faults c.args.source.now c.script_of.new.source in
    let sink = call g.K.Sink.held g.K.Sink.faults c.args.sink.now c.refuse.new.sink in
    let d = still (g.D.Disk.told disk) (g.D.Disk.calls disk) (g.D.Disk.faults disk) in
    let run = c.refuse.result.run in
    rw c.refuse.ensures.ending (record {
      comes_to = not_read (given plans source sink c.args.command) c.in-Err.fault run c.in-Err.ensures c.refuse.ensures.run
          c.refuse.ensures.wrote;
      on_disk = idle_disk c.args.command (job_of plans c.args.command).origin c.in-Err.fault source sink run (disk ≡ disk) d
          c.in-Err.ensures c.refuse.ensures.run refl
          (idle (g.D.Disk.told disk) (g.D.Disk.calls disk) (g.D.Disk.faults disk) (g.met.D.Disk.present disk));
    })

pub returns-in-Store : goal.returns-in-Store
returns-in-Store g c =
    let read = rw c.in-Store.is at c.in-Ok.ensures in
    rw c.in-Store.is (record { comes_to = c.store_script.ensures.comes_to _ read.0; on_disk = c.store_script.ensures.on_disk })

pub returns-in_default : goal.returns-in_default
returns-in_default g c =
    let disk = c.args.disk.now in
    record {
      comes_to = c.run_script.ensures.comes_to _ c.in-Ok.ensures.0;
      on_disk = shows_alone c.args.command c.run_script.result.ending c.run_script.result.run
          (call g.K.Sink.held g.K.Sink.faults c.args.sink.now c.run_script.new.sink) (disk ≡ disk)
          (still (g.D.Disk.told disk) (g.D.Disk.calls disk) (g.D.Disk.faults disk)) c.in_default.not-Store refl
          c.run_script.ensures.off_disk;
    }
