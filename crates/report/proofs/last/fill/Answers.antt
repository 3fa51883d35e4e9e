use Rattle.std.proofs.Common.{rules, ◌<◌, length, sym, ap}
use Rattle.script_model.specs.Changes.{ChangeData}
use Rattle.report.proofs.LastLines.{one_noted}
use Rattle.report.proofs.last.fill.Goals as goal

pub loop-before-preserved : goal.loop-before-preserved
loop-before-preserved c =
    let path = c.args.path.now.settled in
    let before = c.loop-before.before in
    let lt : before < length path = search rules in
    let as_power = ap (λ (d : ChangeData). d.power) c.change.view_is in
    let as_alarm = ap (λ (d : ChangeData). d.alarm) c.change.view_is in
    let then_power = ap (λ (d : ChangeData). d.power) c.change-in-loop-before.view_is in
    let then_alarm = ap (λ (d : ChangeData). d.alarm) c.change-in-loop-before.view_is in
    rw (then_power, then_alarm) (one_noted c.args.last.now path before c.loop-before.power c.loop-before.alarm c.loop-before.last
    c.note_if.new.last c.is_change-is_one.result c.change_after-change.result lt (sym c.change_after-change.ensures)
    (rw (as_power, as_alarm) at c.is_change-is_one.ensures) c.loop-before.invariant c.note_if.ensures.keeps c.note_if.ensures.size)
