use Rattle.std.proofs.Common.{[], false, arith}
use Rattle.lift_base.specs.declared.Kind.TheVariants.{Off}
use Rattle.script_model.specs.Report.{changes_of}
use Rattle.lift_storing.proofs.Appends.{few_changes, none_left, left_longer}
use Rattle.lift_storing.proofs.storing.store_changes.Goals as goal

pub overflow_add-count : goal.overflow_add-count
overflow_add-count g c =
    let few = few_changes Off false 1 c.args.path.now.settled in
    omega (arith, few, c.requires.timely, c.len.ensures.within, c.count_changes.ensures)

pub returns-then-count-gt-SLOTS-clause-any_moment : goal.returns-then-count-gt-SLOTS-clause-any_moment
returns-then-count-gt-SLOTS-clause-any_moment g c =
    let a = g.D.Disk.told c.args.disk.now in
    left_longer [] (changes_of c.args.path.now.settled) a a
    (none_left c.args.store.len a (g.met.D.Disk.present c.args.disk.now) c.requires.stands)
