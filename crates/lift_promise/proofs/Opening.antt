-- A record is opened, and then changes are appended.
use Rattle.std.proofs.Common.{List, sym, subst, arith}
use Rattle.std.proofs.lemmas.List.{append-nil}
use Rattle.record_disk.proofs.Moments.{Between, weaken, run_on, both_map, both_then, both_with}
use Rattle.record_disk.specs.Disk.{State, Told, BothTold, Same, LeavesOnly}
use Rattle.record_store.proofs.Clean.{clean_same}
use Rattle.record_store.specs.Record.{IsClean}
use Rattle.record_store.specs.Store.{HasFront, LeavesFront}
use Rattle.record_store.specs.Writing.{IsDurable}
use Rattle.script_model.specs.Changes.{ChangeData}

abbrev pub Opened : Between
Opened s t = LeavesOnly s t s.may_leave

abbrev pub SameReads : Between
SameReads s t = Same t.reads s.reads

module _ (xs : List ChangeData) where
  -- where nothing was pending, a crash at any moment leaves a front
  abbrev pub FromDurable : Between
  FromDurable s t = IsDurable s → LeavesFront xs s t

  first : (s t : State) → Opened s t → FromDurable s t
  first s t opened durable entries clean =
      weaken s t s.may_leave (HasFront entries xs) (λ c left. (
        0,
        omega arith,
        subst (IsClean c) (sym (append-nil entries)) (clean_same s.reads c entries clean (durable c left)),
      )) opened

  pub opened_only : (a b : Told) → BothTold a b Opened → BothTold a b FromDurable
  opened_only a b so = both_map a b Opened FromDurable first so

  module _ (a b c : Told) (same : BothTold a b SameReads) where
    abbrev Start : Between
    Start s t = Opened s t × SameReads s t

    fronts : (s t v : State) → Start s t → LeavesFront xs t v → FromDurable s v
    fronts s t v one two durable entries clean =
        let later = two entries (clean_same s.reads t.reads entries clean one.1) in
        run_on s t v (HasFront entries xs) (first s t one.0 durable entries clean) later

    pub opened_and : BothTold a b Opened → BothTold b c (LeavesFront xs) → BothTold a c FromDurable
    opened_and so more = both_then a b c Start (LeavesFront xs) FromDurable fronts
        (both_with a b Opened SameReads Start (λ s t p q. (p, q)) so same) more
