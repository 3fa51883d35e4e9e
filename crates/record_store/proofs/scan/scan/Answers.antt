use Rattle.std.proofs.Common.{◌≡◌, arith}
use Rattle.record_store.specs.declared.slot.TheConstants.{SLOTS}
use Rattle.record_store.proofs.Getting.{scan_ends}
use Rattle.record_store.proofs.scan.scan.Goals as goal

pub returns-clause-clean : goal.returns-clause-clean
returns-clause-clean g c =
    let end : c.loop-i.i ≡ SLOTS = omega arith in
    scan_ends c.loop-i.i c.loop-i.len (g.D.Disk.told c.args.disk.now) (g.D.Disk.told c.loop-i.disk) c.loop-i.invariant.so_far end
