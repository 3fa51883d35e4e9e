use Rattle.std.proofs.Common.{ℕ, ◌<◌, List, sym, subst, arith}
use Rattle.record_disk.specs.Disk.{BothTold}
use Rattle.record_store.specs.Store.{StoreData, StandsOver}
use Rattle.record_store.specs.Writing.{LeavesPart, WritesSlot}
use Rattle.record_store.specs.declared.slot.TheConstants.{SLOTS}
use Rattle.record_store.proofs.Appending.{none_yet, all_moments, all_done, still_stands}
use Rattle.record_store.proofs.store.RecordStore.append.Goals as goal

pub returns-then-self-eq-SLOTS-clause-any_moment : goal.returns-then-self-eq-SLOTS-clause-any_moment
returns-then-self-eq-SLOTS-clause-any_moment g c =
    none_yet c.args.self.now.len c.args.change.now (g.D.Disk.told c.args.disk.now) (g.met.D.Disk.present c.args.disk.now) c.requires.stands

pub returns-in-Ok-clause-any_moment : goal.returns-in-Ok-clause-any_moment
returns-in-Ok-clause-any_moment g c =
    let n = c.self.inside.len in
    let a = g.D.Disk.told c.args.disk.now in
    let b = g.D.Disk.told c.write_slot.new.disk in
    let under : n < SLOTS = omega arith in
    let stands = subst (λ (d : StoreData). StandsOver d a) (sym c.self.view_is) c.requires.stands in
    let leaves = subst (λ (h : List ℕ). BothTold a b (LeavesPart n h)) c.head_of-head.ensures c.write_slot.ensures.any_moment in
    all_moments n c.args.change.now under c.requires.timely a b stands leaves

pub returns-in-Err-clause-any_moment : goal.returns-in-Err-clause-any_moment
returns-in-Err-clause-any_moment g c =
    let n = c.self.inside.len in
    let a = g.D.Disk.told c.args.disk.now in
    let b = g.D.Disk.told c.write_slot.new.disk in
    let under : n < SLOTS = omega arith in
    let stands = subst (λ (d : StoreData). StandsOver d a) (sym c.self.view_is) c.requires.stands in
    let leaves = subst (λ (h : List ℕ). BothTold a b (LeavesPart n h)) c.head_of-head.ensures c.write_slot.ensures.any_moment in
    all_moments n c.args.change.now under c.requires.timely a b stands leaves

pub returns-in-Ok-clause-acknowledged : goal.returns-in-Ok-clause-acknowledged
returns-in-Ok-clause-acknowledged g c =
    let n = c.self.inside.len in
    let a = g.D.Disk.told c.args.disk.now in
    let b = g.D.Disk.told c.write_slot.new.disk in
    let under : n < SLOTS = omega arith in
    let stands = subst (λ (d : StoreData). StandsOver d a) (sym c.self.view_is) c.requires.stands in
    let written = subst (λ (h : List ℕ). BothTold a b (WritesSlot n h)) c.head_of-head.ensures c.in-Ok.ensures.written in
    all_done n c.args.change.now under c.requires.timely a b stands written

pub returns-in-Ok-clause-stands : goal.returns-in-Ok-clause-stands
returns-in-Ok-clause-stands g c =
    let n = c.self.inside.len in
    let a = g.D.Disk.told c.args.disk.now in
    let b = g.D.Disk.told c.write_slot.new.disk in
    let under : n < SLOTS = omega arith in
    let stands = subst (λ (d : StoreData). StandsOver d a) (sym c.self.view_is) c.requires.stands in
    let written = subst (λ (h : List ℕ). BothTold a b (WritesSlot n h)) c.head_of-head.ensures c.in-Ok.ensures.written in
    still_stands n c.args.change.now under c.requires.timely a b stands written
