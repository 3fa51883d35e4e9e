-- What `store` leaves on the disk, by what was opened and what was appended.
use Rattle.std.proofs.Common.{ℕ, ◌≡◌, ◌+◌, ◌*◌, ◌<◌, List, [], ◌++◌, length, refl, sym, subst, arith}
use Rattle.std.proofs.lemmas.List.{append-nil}
use Rattle.std.specs.declared.option.Option.{Option}
use Rattle.std.specs.declared.option.Option.TheVariants.{None}
use Rattle.core_model.specs.Settling.{Settled}
use Rattle.record_disk.specs.Disk.{State, Told, BothTold, CountedUpTo, IfTold, IsPresent}
use Rattle.record_disk.proofs.Counts.{none_counted, count_more}
use Rattle.record_disk.proofs.Moments.{starts, both_start, both_then, both_with}
use Rattle.record_store.proofs.Clean.{clean_same}
use Rattle.record_store.specs.Record.{IsClean, IsCleanWith, IsForeign, IsUnclean}
use Rattle.record_store.specs.Store.{HasFront, KeepsAll, LeavesFront}
use Rattle.record_store.specs.Writing.{IsDurable}
use Rattle.record_store.specs.declared.slot.TheConstants.{SLOTS}
use Rattle.lift_run.specs.Records.{RunData}
use Rattle.script_model.specs.Changes.{ChangeData}
use Rattle.script_model.specs.Report.{changes_of}
use Rattle.lift_front.specs.Calls.{Call}
use Rattle.lift_front.specs.Refusals.{WroteRefusal, notice}
use Rattle.lift_front.specs.Scripts.{NotRead, Origin}
use Rattle.lift_front.specs.declared.command.Command.{Command}
use Rattle.lift_front.specs.declared.command.Command.TheVariants.{Store}
use Rattle.lift_front.specs.declared.ending.Ending.{Ending}
use Rattle.lift_front.specs.declared.ending.Ending.TheVariants.{Done, CutShort, Refused}
use Rattle.lift_front.specs.declared.fault.Fault.{Fault}
use Rattle.lift_front.specs.declared.fault.Fault.TheVariants as fault
use Rattle.lift_promise.proofs.Opening.{Opened, SameReads, opened_and, opened_only}
use Rattle.lift_promise.specs.Promise.{Given, job, ComesTo, Why}
use Rattle.lift_promise.specs.Storing.{DiskCall, Counts, HasForeign, HasNoRoom, HasStored, IsOffDisk, OnDisk, OverDisk, StoresAll, Survives, run_changes}
use Rattle.lift_promise.specs.Writing.{HasRun, IsBare, IsWhole, stopped_at}

-- ---- the disk

-- a disk that was not called
abbrev pub still : Told → Option ℕ → ℕ → DiskCall
still a n f = record { told_before = a; told_after = a; calls_before = n; calls_after = n; faults_before = f; faults_after = f }

none_lost : (s : State) → IsPresent s → IsDurable s → LeavesFront [] s s
none_lost s present durable entries clean =
    let here : IsClean s.reads (entries ++ []) = subst (IsClean s.reads) (sym (append-nil entries)) clean in
    starts s (HasFront entries []) present (λ c now. (0, omega arith, clean_same s.reads c (entries ++ []) here (durable c now)))

pub idle : (a : Told) (n : Option ℕ) (f : ℕ) → IfTold a IsPresent → Survives [] (still a n f)
idle a n f present = record {
  any_moment = both_start a (λ s t. IsDurable s → LeavesFront [] s t) IsPresent none_lost present;
  calls = none_counted 1 n;
}

-- the record was opened, or was not, and then nothing was called
pub opened_alone : (d : DiskCall) → OverDisk d Opened → CountedUpTo 1 d.calls_before d.calls_after → Survives [] d
opened_alone d opened calls = record { any_moment = opened_only [] d.told_before d.told_after opened; calls = calls }

-- it was opened, and then changes were appended
pub survives_both : (d : DiskCall) (xs : List ChangeData) (b : Told) (n : Option ℕ) → BothTold d.told_before b SameReads
    → BothTold d.told_before b Opened → CountedUpTo 1 d.calls_before n
    → BothTold b d.told_after (LeavesFront xs) → CountedUpTo (4 * length xs) n d.calls_after → Survives xs d
survives_both d xs b n same opened counted left more = record {
  any_moment = opened_and xs d.told_before b d.told_after same opened left;
  calls = count_more 1 (4 * length xs) (1 + 4 * length xs) d.calls_before n d.calls_after (omega arith) counted more;
}

module _ (a b : Told) (same : BothTold a b SameReads) (opened : BothTold a b Opened) where
  abbrev Kept : State → State → Type 0
  Kept s t = SameReads s t × Opened s t

  kept : BothTold a b Kept
  kept = both_with a b SameReads Opened Kept (λ s t p q. (p, q)) same opened

  pub is_foreign : (i : ℕ) → BothTold a b (λ s t. IsForeign s.reads i × IsUnclean s.reads) → BothTold a b (HasForeign i)
  is_foreign i so = both_with a b (λ s t. IsForeign s.reads i × IsUnclean s.reads) Kept (HasForeign i) (λ s t p q. (p.0, p.1, q)) so kept

  module _ (xs : List ChangeData) (n : ℕ) (clean : BothTold a b (λ s t. IsCleanWith s.reads n)) where
    pub has_no_room : SLOTS < n + length xs → BothTold a b (HasNoRoom xs)
    has_no_room many = both_with a b (λ s t. IsCleanWith s.reads n) Kept (HasNoRoom xs) (λ s t p q. (n, p, many, q)) clean kept

    module _ (c : Told) where
      abbrev Has : State → State → Type 0
      Has s t = IsCleanWith s.reads n × SameReads s t

      stores : (count : ℕ) → count ≡ n + length xs → (s t v : State) → Has s t → KeepsAll xs t v → StoresAll xs count s v
      stores count is s t v one two = (
        n,
        one.0,
        is,
        λ entries so. two entries (clean_same s.reads t.reads entries so one.1),
      )

      pub stores_all : (count : ℕ) → count ≡ n + length xs → BothTold b c (KeepsAll xs) → BothTold a c (StoresAll xs count)
      stores_all count is done = both_then a b c Has (KeepsAll xs) (StoresAll xs count) (stores count is)
          (both_with a b (λ s t. IsCleanWith s.reads n) SameReads Has (λ s t p q. (p, q)) clean same) done

-- ---- what was not run

-- a text that was not read is no refusal for the sake of a disk
off_disk : (origin : Origin) (f : Fault) (source : Call) → NotRead origin f source → IsOffDisk (Refused f)
off_disk origin fault.Disk source never = never
off_disk origin (fault.Record i) source never = never
off_disk origin f source why = tt

untouched_by : (origin : Origin) (f : Fault) (source sink : Call) (run : RunData) (untouched : Type 0) (d : DiskCall)
    → NotRead origin f source → untouched → HasStored (Refused f) run sink untouched d
untouched_by origin fault.Disk source sink run untouched d never left = absurd never
untouched_by origin (fault.Record i) source sink run untouched d never left = absurd never
untouched_by origin f source sink run untouched d why left = left

why_of : (g : Given) (f : Fault) → NotRead (job g).origin f g.source → Why g f
why_of g fault.Disk never = absurd never
why_of g (fault.Record i) never = absurd never
why_of g f why = why

-- a command whose script was not read
pub not_read : (g : Given) (f : Fault) (run : RunData) → NotRead (job g).origin f g.source → IsBare run
    → WroteRefusal g.sink (notice f).text → ComesTo g (Refused f) run
not_read g f run why bare wrote = record { bare = bare; why = why_of g f why; wrote = wrote }

-- nothing ran, so there are no changes
pub no_changes : (run : RunData) (d : DiskCall) → IsBare run → Survives [] d → Survives (run_changes run) d
no_changes run d bare so = subst (λ (path : List Settled). Survives (changes_of path) d) (sym bare.0) so

pub idle_disk : (command : Command) (origin : Origin) (f : Fault) (source sink : Call) (run : RunData) (untouched : Type 0)
    (d : DiskCall) → NotRead origin f source → IsBare run → untouched → Survives [] d
    → OnDisk command (Refused f) run sink untouched d
idle_disk Store origin f source sink run untouched d why bare left so =
    (no_changes run d bare so, untouched_by origin f source sink run untouched d why left)
idle_disk command origin f source sink run untouched d why bare left so = (left, off_disk origin f source why)

-- a command that only shows its run calls no disk
pub shows_alone : (command : Command) (e : Ending) (run : RunData) (sink : Call) (untouched : Type 0) (d : DiskCall)
    → (command ≡ Store → ⊥) → untouched → IsOffDisk e → OnDisk command e run sink untouched d
shows_alone Store e run sink untouched d other left off = absurd (other refl)
shows_alone command e run sink untouched d other left off = (left, off)

-- ---- what was run

pub whole_has_run : (e : Ending) → IsWhole e → HasRun e
whole_has_run Done whole = tt
whole_has_run CutShort whole = tt
whole_has_run e whole = absurd whole

pub whole_stops_nowhere : (e : Ending) → IsWhole e → stopped_at e ≡ None
whole_stops_nowhere Done whole = refl
whole_stops_nowhere CutShort whole = refl
whole_stops_nowhere e whole = absurd whole

pub is_counted : (e : Ending) (run : RunData) (sink : Call) (untouched : Type 0) (d : DiskCall) → IsWhole e → Counts e run sink d
    → HasStored e run sink untouched d
is_counted Done run sink untouched d whole counts = counts
is_counted CutShort run sink untouched d whole counts = counts
is_counted e run sink untouched d whole counts = absurd whole
