use Rattle.std.proofs.Common.{◌≡◌, ap}
use Rattle.std.specs.declared.result.Result.TheVariants.{Err}
use Rattle.record_store.specs.declared.faults.OpenFault.TheVariants.{Foreign}
use Rattle.record_store.proofs.Getting.{open_foreign}
use Rattle.record_store.proofs.store.RecordStore.open.Goals as goal

pub returns-in-Err-clause-foreign : goal.returns-in-Err-clause-foreign
returns-in-Err-clause-foreign g c = λ i is.
    let fault : c.in-Err.fault ≡ Foreign i = cc in
    open_foreign (g.D.Disk.told c.args.disk.now) (g.D.Disk.told c.sync.new.self) (g.D.Disk.told c.scan.new.disk) i
    c.in_ok-sync.ensures.synced (c.in-Err.ensures.foreign i (ap Err fault))
