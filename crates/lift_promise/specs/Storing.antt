-- What `store` leaves on the disk that keeps its record, and what other commands leave there. All own.
use Rattle.std.specs.Prelude.{ℕ, ◌≡◌, ◌≤◌, ◌<◌, ◌+◌, ◌*◌, List, ◌++◌, length}
use Rattle.std.specs.declared.option.Option.{Option}
use Rattle.lift_io.specs.Causes.{Rose}
use Rattle.record_disk.specs.Disk.{State, Told, Silent, Tells, BothTold, CountedTwice, CountedUpTo, LeavesOnly, Same}
use Rattle.record_store.specs.Record.{IsCleanWith, IsForeign, IsUnclean}
use Rattle.record_store.specs.Store.{KeepsAll, LeavesFront}
use Rattle.record_store.specs.Writing.{IsDurable}
use Rattle.record_store.specs.declared.slot.TheConstants.{SLOTS}
use Rattle.lift_run.specs.Records.{RunData}
use Rattle.script_model.specs.Changes.{ChangeData}
use Rattle.script_model.specs.Report.{changes_of}
use Rattle.lift_front.specs.Calls.{Call}
use Rattle.lift_making.specs.Jobs.{report_of}
use Rattle.lift_promise.specs.Writing.{Wrote, stored_text}
use Rattle.lift_front.specs.declared.command.Command.{Command}
use Rattle.lift_front.specs.declared.command.Command.TheVariants.{Store}
use Rattle.lift_front.specs.declared.ending.Ending.{Ending}
use Rattle.lift_front.specs.declared.ending.Ending.TheVariants as ending
use Rattle.lift_front.specs.declared.fault.Fault.TheVariants as fault

-- ---- a disk and a call

-- what a disk that was handed in tells of a call: of its bytes, how many writes and syncs were called, and its count of faults
pub record DiskCall : Type 1 where
  pub told_before : Told
  pub told_after : Told
  pub calls_before : Option ℕ
  pub calls_after : Option ℕ
  pub faults_before : ℕ
  pub faults_after : ℕ

-- the same of a disk before and after, by what it tells
abbrev pub disk_call : {A : Type 0} → (A → Told) → (A → Option ℕ) → (A → ℕ) → A → A → DiskCall
disk_call told calls faults x y = record {
  told_before = told x;
  told_after = told y;
  calls_before = calls x;
  calls_after = calls y;
  faults_before = faults x;
  faults_after = faults y;
}

-- no call of it failed
abbrev pub IsCalmDisk : DiskCall → Type 0
IsCalmDisk d = d.faults_after ≡ d.faults_before

-- its count of faults rose
abbrev pub HasDiskFailed : DiskCall → Type 0
HasDiskFailed d = Rose d.faults_before d.faults_after

-- of what it tells before and after, where it tells its bytes
abbrev pub OverDisk : DiskCall → (State → State → Type 0) → Type 0
OverDisk d P = BothTold d.told_before d.told_after P

-- ---- what is left on it

-- the changes of a run
abbrev pub run_changes : RunData → List ChangeData
run_changes run = changes_of run.path.settled

-- Where nothing was pending, a crash at any moment of the call leaves the entries from before it and a front of the changes. A sync comes
-- first, and each change takes two writes and two syncs.
pub record Survives (changes : List ChangeData) (d : DiskCall) : Type 0 where
  pub any_moment : OverDisk d (λ s t. IsDurable s → LeavesFront changes s t)
  pub calls : CountedUpTo (1 + 4 * length changes) d.calls_before d.calls_after

-- there were entries, and with all the changes they are this many; every crash leaves them all
abbrev pub StoresAll : List ChangeData → ℕ → State → State → Type 0
StoresAll changes count s t = (n : ℕ) × IsCleanWith s.reads n × (count ≡ n + length changes) × KeepsAll changes s t

-- nothing was written: what a read gives is as before, and a crash leaves what it might have left before
abbrev pub IsKept : State → State → Type 0
IsKept s t = Same t.reads s.reads × LeavesOnly s t s.may_leave

-- there were entries, with the changes they are more than there are slots, and nothing was written
abbrev pub HasNoRoom : List ChangeData → State → State → Type 0
HasNoRoom changes s t = (n : ℕ) × IsCleanWith s.reads n × (SLOTS < n + length changes) × IsKept s t

-- this slot is the first that does not belong to a record, so there are no entries; and nothing was written
abbrev pub HasForeign : ℕ → State → State → Type 0
HasForeign i s t = IsForeign s.reads i × IsUnclean s.reads × IsKept s t

-- all the changes were stored, and the count that was written is that of the entries; over a disk that does not tell its bytes it has
-- at least the changes
pub record Counts (e : Ending) (run : RunData) (sink : Call) (d : DiskCall) : Type 0 where
  pub count : ℕ
  pub wrote : Wrote e (report_of run ++ stored_text count) sink
  pub calm : IsCalmDisk d
  pub some : length (run_changes run) ≤ count
  pub few : count ≤ SLOTS
  pub stored : OverDisk d (StoresAll (run_changes run) count)

-- What `store` came to. Where the record could not be opened nothing ran; where the disk fails after a run it was called for the opening,
-- and again for a change.
abbrev pub HasStored : Ending → RunData → Call → Type 0 → DiskCall → Type 0
HasStored (ending.Refused fault.Disk) run sink untouched d = HasDiskFailed d
HasStored (ending.Refused (fault.Record i)) run sink untouched d = IsCalmDisk d × OverDisk d (HasForeign i)
HasStored (ending.Refused f) run sink untouched d = untouched
HasStored (ending.Stopped fault.Disk) run sink untouched d = HasDiskFailed d × CountedTwice d.calls_before d.calls_after
HasStored (ending.Stopped fault.Full) run sink untouched d = IsCalmDisk d × OverDisk d (HasNoRoom (run_changes run))
HasStored (ending.Stopped f) run sink untouched d = ⊥
HasStored e run sink untouched d = Counts e run sink d

-- this is no ending for the sake of a disk
abbrev pub IsOffDisk : Ending → Type 0
IsOffDisk (ending.Refused fault.Disk) = ⊥
IsOffDisk (ending.Refused (fault.Record i)) = ⊥
IsOffDisk (ending.Stopped fault.Disk) = ⊥
IsOffDisk (ending.Stopped fault.Full) = ⊥
IsOffDisk e = Unit {0}

-- what a command left on the disk: all but `store` leave it as it was
abbrev pub OnDisk : Command → Ending → RunData → Call → Type 0 → DiskCall → Type 0
OnDisk Store e run sink untouched d = Survives (run_changes run) d × HasStored e run sink untouched d
OnDisk command e run sink untouched d = untouched × IsOffDisk e

-- ---- completeness

abbrev pub TellsRoom : List ChangeData → Told → Type 0
TellsRoom changes Silent = ⊥
TellsRoom changes (Tells s) = (n : ℕ) × IsCleanWith s.reads n × (n + length changes ≤ SLOTS)

-- the disk never failed, and it tells that it holds a record with room for the changes
abbrev pub HasRoom : List ChangeData → DiskCall → Type 0
HasRoom changes d = (HasDiskFailed d → ⊥) × TellsRoom changes d.told_before

-- nothing on the disk stands in the way of a command
abbrev pub IsReady : Command → List ChangeData → DiskCall → Type 0
IsReady Store changes d = HasRoom changes d
IsReady _ changes d = Unit {0}
