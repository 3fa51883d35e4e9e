use Rattle.std.proofs.Common.{◌≡◌, ◌+◌, ◌*◌, true}
use Rattle.record_disk.specs.Disk.{BothTold, CountedUpTo}
use Rattle.record_store.specs.Store.{StandsOver}
use Rattle.record_store.proofs.Fronts.{Appended}
use Rattle.record_store.proofs.store.RecordStore.append_all.Given as goal

abbrev pub invariant-loop-change : goal.invariant-loop-change
invariant-loop-change g l = record {
  so_far : BothTold (g.D.Disk.told l.fn.disk) (g.D.Disk.told l.disk) (Appended l.changes l.change-index);
  stands : StandsOver l.self (g.D.Disk.told l.disk);
  usable : l.self.usable ≡ true;
  len : l.self.len ≡ l.fn.self.len + l.change-index;
  calls : CountedUpTo (4 * l.change-index) (g.D.Disk.calls l.fn.disk) (g.D.Disk.calls l.disk);
  calm : g.D.Disk.faults l.disk ≡ g.D.Disk.faults l.fn.disk;
}
