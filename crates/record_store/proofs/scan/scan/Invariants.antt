use Rattle.std.proofs.Common.{◌≡◌, ◌≤◌}
use Rattle.record_disk.specs.Disk.{BothTold}
use Rattle.record_store.proofs.Getting.{ScansTo}
use Rattle.record_store.proofs.scan.scan.Given as goal

abbrev pub invariant-loop-i : goal.invariant-loop-i
invariant-loop-i g l = record {
  so_far : BothTold (g.D.Disk.told l.fn.disk) (g.D.Disk.told l.disk) (ScansTo l.i l.len);
  within : l.len ≤ l.i;
  calls : g.D.Disk.calls l.disk ≡ g.D.Disk.calls l.fn.disk;
  calm : g.D.Disk.faults l.disk ≡ g.D.Disk.faults l.fn.disk;
}
