use Rattle.std.proofs.Common.{◌≡◌, ◌+◌, ◌*◌, ◌≤◌, ◌∙◌, List, ◌++◌, length, take, Bool, true, false, refl, sym, ap, subst, arith, Result, Ok, Err}
use Rattle.std.specs.Prelude.{All, OnErr, option_to_list}
use Rattle.record_disk.specs.Disk.{BothTold, CountedUpTo}
use Rattle.record_disk.proofs.Counts.{none_counted, count_more, once_behind}
use Rattle.record_store.specs.Store.{IsTimely, KeepsAll, LeavesFront}
use Rattle.report.specs.Ticks.{change_of}
use Rattle.script_model.specs.Changes.{ChangeData}
use Rattle.script_model.specs.Report.{changes_of}
use Rattle.lift_storing.proofs.Appends.{slice_of, timely_at, one_more, one_longer, others, few_more, all_ticks, none_left, none_kept, left_longer, left_more, kept_more}
use Rattle.lift_storing.proofs.storing.append_changes.Goals as goal

truth : (b : Bool) → (b ≡ false → ⊥) → b ≡ true
truth true h = refl
truth false h = absurd (h refl)

on_err : {A E P : Type 0} → P → (r : Result A E) → OnErr r P
on_err p (Ok x) = tt
on_err p (Err e) = p

pub loop-before-init : goal.loop-before-init
loop-before-init g c =
    let d = c.args.disk.now in
    record {
      left = none_left c.args.store.now.len (g.D.Disk.told d) (g.met.D.Disk.present d) c.requires.stands;
      kept = none_kept c.args.store.now.len (g.D.Disk.told d) (g.met.D.Disk.present d) c.requires.stands;
      stands = c.requires.stands;
      usable = c.requires.usable;
      len = omega arith;
      calls = none_counted 0 (g.D.Disk.calls d);
      calm = refl;
    }

pub append_all-requires-clause-room : goal.append_all-requires-clause-room
append_all-requires-clause-room g c =
    let path = c.args.path.now.settled in
    let is = slice_of c.change_at-change.result _ c.as_slice.ensures in
    let few = few_more path c.loop-before.before c.change_at-change.result c.as_slice.result.now is c.change_at-change.ensures.adds in
    omega (arith, few, c.loop-before.invariant.len, c.requires.room)

pub append_all-requires-clause-timely : goal.append_all-requires-clause-timely
append_all-requires-clause-timely g c =
    let path = c.args.path.now.settled in
    let t = c.loop-before.before + 1 in
    let is = slice_of c.change_at-change.result _ c.as_slice.ensures in
    let named : c.as_slice.result.now ≡ option_to_list (change_of path t) = is ∙ ap option_to_list c.change_at-change.ensures.value in
    subst (All IsTimely) (sym named) (timely_at path t (omega arith) (omega (arith, c.requires.timely)))

pub loop-before-preserved : goal.loop-before-preserved
loop-before-preserved g c =
    let told = g.D.Disk.told in
    let calls = g.D.Disk.calls in
    let path = c.args.path.now.settled in
    let before = c.loop-before.before in
    let change = c.change_at-change.result in
    let xs = c.as_slice.result.now in
    let so_far = changes_of (take before path) in
    let is = slice_of change xs c.as_slice.ensures in
    let more = one_more path before change xs is c.change_at-change.ensures.adds in
    let long = one_longer path before change xs is c.change_at-change.ensures.adds in
    let now = c.loop-before.invariant in
    let a = told c.args.disk.now in
    let b = told c.loop-before.disk in
    let d = told c.append_all.new.disk in
    let usable : c.append_all.new.self.usable ≡ false → ⊥ = λ f. cc (c.in_ok-append_all.ensures.usable.0 f) in
    record {
      left = subst (λ (l : List ChangeData). BothTold a d (LeavesFront l)) (sym more)
          (left_more so_far xs a b d now.left now.kept c.append_all.ensures.any_moment);
      kept = subst (λ (l : List ChangeData). BothTold a d (KeepsAll l)) (sym more)
          (kept_more so_far xs a b d now.left now.kept c.in_ok-append_all.ensures.acknowledged);
      stands = c.in_ok-append_all.ensures.stands;
      usable = truth c.append_all.new.self.usable usable;
      len = omega (arith, c.in_ok-append_all.ensures.len, now.len, long);
      calls = count_more (4 * length so_far) (4 * length xs) (4 * length (changes_of (take (before + 1) path)))
          (calls c.args.disk.now) (calls c.loop-before.disk) (calls c.append_all.new.disk)
          (omega (arith, long)) now.calls c.append_all.ensures.calls;
      calm = c.in_ok-append_all.ensures.cause.calm ∙ now.calm;
    }

pub returns-in_err-append_all-clause-any_moment : goal.returns-in_err-append_all-clause-any_moment
returns-in_err-append_all-clause-any_moment g c =
    let told = g.D.Disk.told in
    let path = c.args.path.now.settled in
    let before = c.loop-before.before in
    let xs = c.as_slice.result.now in
    let so_far = changes_of (take before path) in
    let is = slice_of c.change_at-change.result xs c.as_slice.ensures in
    let rest = others path before c.change_at-change.result xs is c.change_at-change.ensures.adds in
    let a = told c.args.disk.now in
    let d = told c.append_all.new.disk in
    subst (λ (l : List ChangeData). BothTold a d (LeavesFront l)) (sym rest.1) (left_longer (so_far ++ xs) rest.0 a d
    (left_more so_far xs a (told c.loop-before.disk) d c.loop-before.invariant.left c.loop-before.invariant.kept
    c.append_all.ensures.any_moment))

pub returns-in_err-append_all-clause-calls : goal.returns-in_err-append_all-clause-calls
returns-in_err-append_all-clause-calls g c =
    let calls = g.D.Disk.calls in
    let path = c.args.path.now.settled in
    let xs = c.as_slice.result.now in
    let so_far = changes_of (take c.loop-before.before path) in
    let is = slice_of c.change_at-change.result xs c.as_slice.ensures in
    let few = few_more path c.loop-before.before c.change_at-change.result xs is c.change_at-change.ensures.adds in
    count_more (4 * length so_far) (4 * length xs) (4 * length (changes_of path))
    (calls c.args.disk.now) (calls c.loop-before.disk) (calls c.append_all.new.disk)
    (omega (arith, few)) c.loop-before.invariant.calls c.append_all.ensures.calls

pub returns-in_err-append_all-clause-called : goal.returns-in_err-append_all-clause-called
returns-in_err-append_all-clause-called g c =
    on_err (once_behind (4 * length (changes_of (take c.loop-before.before c.args.path.now.settled))) _ _ _
    c.loop-before.invariant.calls c.in_err-append_all.ensures.called) c.from_residual.result

pub returns-clause-any_moment : goal.returns-clause-any_moment
returns-clause-any_moment g c =
    let told = g.D.Disk.told in
    let past : length c.args.path.now.settled ≤ c.loop-before.before = omega arith in
    subst (λ (l : List ChangeData). BothTold (told c.args.disk.now) (told c.loop-before.disk) (LeavesFront l))
    (all_ticks c.args.path.now.settled c.loop-before.before past) c.loop-before.invariant.left

pub returns-clause-acknowledged : goal.returns-clause-acknowledged
returns-clause-acknowledged g c =
    let told = g.D.Disk.told in
    let past : length c.args.path.now.settled ≤ c.loop-before.before = omega arith in
    subst (λ (l : List ChangeData). BothTold (told c.args.disk.now) (told c.loop-before.disk) (KeepsAll l))
    (all_ticks c.args.path.now.settled c.loop-before.before past) c.loop-before.invariant.kept

pub returns-clause-calls : goal.returns-clause-calls
returns-clause-calls g c =
    let calls = g.D.Disk.calls in
    let past : length c.args.path.now.settled ≤ c.loop-before.before = omega arith in
    subst (λ (l : List ChangeData). CountedUpTo (4 * length l) (calls c.args.disk.now) (calls c.loop-before.disk))
    (all_ticks c.args.path.now.settled c.loop-before.before past) c.loop-before.invariant.calls
