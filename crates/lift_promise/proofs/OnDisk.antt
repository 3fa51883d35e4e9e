-- What a command left on the disk says why it was refused.
use Rattle.std.proofs.Common.{ℕ, List, arith}
use Rattle.record_disk.specs.Disk.{Told, Silent, Tells, BothTold}
use Rattle.record_store.proofs.Clean.{clean_len}
use Rattle.lift_run.specs.Records.{RunData}
use Rattle.script_model.specs.Changes.{ChangeData}
use Rattle.lift_front.specs.Calls.{Call}
use Rattle.lift_front.specs.declared.command.Command.{Command}
use Rattle.lift_front.specs.declared.command.Command.TheVariants.{Store}
use Rattle.lift_front.specs.declared.ending.Ending.{Ending}
use Rattle.lift_front.specs.declared.ending.Ending.TheVariants.{Refused, Stopped}
use Rattle.lift_front.specs.declared.fault.Fault.TheVariants as fault
use Rattle.lift_promise.specs.Storing.{DiskCall, HasForeign, HasNoRoom, HasRoom, HasStored, IsOffDisk, IsReady, OnDisk, TellsRoom, run_changes}

-- ---- a record with room

no_foreign : (a b : Told) (i : ℕ) (xs : List ChangeData) → BothTold a b (HasForeign i) → TellsRoom xs a → ⊥
no_foreign Silent b i xs h room = room
no_foreign (Tells s) Silent i xs h room = h
no_foreign (Tells s) (Tells t) i xs (foreign, none, kept) (n, (entries, clean, long), fits) = none entries clean

no_full : (a b : Told) (xs : List ChangeData) → BothTold a b (HasNoRoom xs) → TellsRoom xs a → ⊥
no_full Silent b xs h room = room
no_full (Tells s) Silent xs h room = h
no_full (Tells s) (Tells t) xs (m, (entries, clean, long), many, kept) (n, (others, is, size), fits) =
    let same = clean_len s.reads entries others clean is in
    omega (arith, same, long, size, many, fits)

off_disk : (e : Ending) (run : RunData) (sink : Call) (untouched : Type 0) (d : DiskCall) → HasStored e run sink untouched d
    → HasRoom (run_changes run) d → IsOffDisk e
off_disk (Refused fault.Disk) run sink untouched d failed (calm, room) = calm failed
off_disk (Refused (fault.Record i)) run sink untouched d (calm, over) (never, room) =
    no_foreign d.told_before d.told_after i (run_changes run) over room
off_disk (Stopped fault.Disk) run sink untouched d (failed, twice) (calm, room) = calm failed
off_disk (Stopped fault.Full) run sink untouched d (calm, over) (never, room) =
    no_full d.told_before d.told_after (run_changes run) over room
off_disk e run sink untouched d stored room = tt

pub is_off : (command : Command) (e : Ending) (run : RunData) (sink : Call) (untouched : Type 0) (d : DiskCall)
    → OnDisk command e run sink untouched d → IsReady command (run_changes run) d → IsOffDisk e
is_off Store e run sink untouched d (so, stored) room = off_disk e run sink untouched d stored room
is_off command e run sink untouched d on_disk ready = on_disk.1
