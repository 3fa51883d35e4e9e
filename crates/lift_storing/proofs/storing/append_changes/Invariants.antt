use Rattle.std.proofs.Common.{◌≡◌, ◌+◌, ◌*◌, length, take, true}
use Rattle.record_disk.specs.Disk.{BothTold, CountedUpTo}
use Rattle.record_store.specs.Store.{KeepsAll, LeavesFront, StandsOver}
use Rattle.script_model.specs.Report.{changes_of}
use Rattle.lift_storing.proofs.storing.append_changes.Given as goal

-- the changes of the ticks so far were appended
abbrev pub invariant-loop-before : goal.invariant-loop-before
invariant-loop-before g l =
    let so_far = changes_of (take l.before l.path.settled) in
    record {
      left : BothTold (g.D.Disk.told l.fn.disk) (g.D.Disk.told l.disk) (LeavesFront so_far);
      kept : BothTold (g.D.Disk.told l.fn.disk) (g.D.Disk.told l.disk) (KeepsAll so_far);
      stands : StandsOver l.store (g.D.Disk.told l.disk);
      usable : l.store.usable ≡ true;
      len : l.store.len ≡ l.fn.store.len + length so_far;
      calls : CountedUpTo (4 * length so_far) (g.D.Disk.calls l.fn.disk) (g.D.Disk.calls l.disk);
      calm : g.D.Disk.faults l.disk ≡ g.D.Disk.faults l.fn.disk;
    }
