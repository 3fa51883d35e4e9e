use Rattle.std.proofs.Common.{◌≡◌, ◌+◌, ◌*◌, ◌≤◌, length, Bool, true, false, refl, ap, ◌∙◌, Err, arith}
use Rattle.record_disk.proofs.Counts.{none_counted, count_more, once_behind}
use Rattle.record_store.proofs.Fronts.{none_yet, stops, goes_on, all_done}
use Rattle.record_store.proofs.store.RecordStore.append_all.Goals as goal

truth : (b : Bool) → (b ≡ false → ⊥) → b ≡ true
truth true h = refl
truth false h = absurd (h refl)

pub loop-change-init : goal.loop-change-init
loop-change-init g c =
    let d = c.args.disk.now in
    record {
      so_far = none_yet c.args.changes.now c.args.self.now.len (g.D.Disk.told d) (g.met.D.Disk.present d) c.requires.stands;
      stands = c.requires.stands;
      usable = c.requires.usable;
      len = omega arith;
      calls = none_counted 0 (g.D.Disk.calls d);
      calm = refl;
    }

pub returns-in-Err-Failed-clause-any_moment : goal.returns-in-Err-Failed-clause-any_moment
returns-in-Err-Failed-clause-any_moment g c =
    let told = g.D.Disk.told in
    stops c.args.changes.now c.loop-change.change-index c.change-item.result c.loop-change-test.true c.change-item.is
    (told c.args.disk.now) (told c.loop-change.disk) (told c.append.new.disk) c.loop-change.invariant.so_far c.append.ensures.any_moment

pub returns-in-Err-Failed-clause-called : goal.returns-in-Err-Failed-clause-called
returns-in-Err-Failed-clause-called g c =
    once_behind (4 * c.loop-change.change-index) _ _ _ c.loop-change.invariant.calls
    (c.append.ensures.called (c.in-Err-Failed.is ∙ ap Err c.in-Err-Failed.field-0-is))

pub loop-change-preserved : goal.loop-change-preserved
loop-change-preserved g c =
    let told = g.D.Disk.told in
    let calls = g.D.Disk.calls in
    let i = c.loop-change.change-index in
    let usable : c.append.new.self.usable ≡ false → ⊥ = λ f. cc (c.in-Ok.ensures.usable.0 f) in
    record {
      so_far = goes_on c.args.changes.now i c.change-item.result c.loop-change-test.true c.change-item.is
          (told c.args.disk.now) (told c.loop-change.disk) (told c.append.new.disk) c.loop-change.invariant.so_far
          c.append.ensures.any_moment c.in-Ok.ensures.acknowledged;
      stands = c.in-Ok.ensures.stands;
      usable = truth c.append.new.self.usable usable;
      len = omega (arith, c.in-Ok.ensures.len, c.loop-change.invariant.len);
      calls = count_more (4 * i) 4 (4 * (i + 1)) (calls c.args.disk.now) (calls c.loop-change.disk) (calls c.append.new.disk)
          (omega arith) c.loop-change.invariant.calls c.append.ensures.calls;
      calm = c.in-Ok.ensures.cause.calm (λ failed. cc) ∙ c.loop-change.invariant.calm;
    }

pub returns-clause-acknowledged : goal.returns-clause-acknowledged
returns-clause-acknowledged g c =
    let told = g.D.Disk.told in
    let xs = c.args.changes.now in
    let i = c.loop-change.change-index in
    let all : length xs ≤ i = omega arith in
    all_done xs i c.loop-change.self.len (told c.args.disk.now) (told c.loop-change.disk) all c.loop-change.invariant.stands
    c.loop-change.invariant.so_far
