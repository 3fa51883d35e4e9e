use Rattle.std.proofs.Common.{arith, rules, ◌<◌, ◌≤◌, length, sym, ap}
use Rattle.std.proofs.lemmas.Result.{err_from_is_err_and}
use Rattle.script_model.specs.Changes.{ChangeData}
use Rattle.report.proofs.TickLines.{tick-written, tick-cut, whole_report}
use Rattle.report.proofs.report.write_report.Goals as goal

pub returns-in_err-put_if-clause-text : goal.returns-in_err-put_if-clause-text
returns-in_err-put_if-clause-text g c =
    let p = err_from_is_err_and c.from_residual.result c.from_residual.ensures.1 in
    let as_power = ap (λ (d : ChangeData). d.power) c.change.view_is in
    let as_alarm = ap (λ (d : ChangeData). d.alarm) c.change.view_is in
    rw p.1 (tick-cut _ _ c.args.path.now.settled c.loop-before.before c.loop-before.power c.loop-before.alarm c.is_change-is_one.result _
    (search rules) (sym c.change_after-change.ensures) (rw (as_power, as_alarm) at c.is_change-is_one.ensures)
    c.loop-before.invariant.text c.in_err-put_if.ensures.text)

pub loop-before-preserved : goal.loop-before-preserved
loop-before-preserved g c =
    let path = c.args.path.now.settled in
    let before = c.loop-before.before in
    let lt : before < length path = search rules in
    let as_power = ap (λ (d : ChangeData). d.power) c.change.view_is in
    let as_alarm = ap (λ (d : ChangeData). d.alarm) c.change.view_is in
    record {
      text = rw (as_power, as_alarm) (tick-written _ _ path before c.loop-before.power c.loop-before.alarm c.is_change-is_one.result _
          lt (sym c.change_after-change.ensures) (rw (as_power, as_alarm) at c.is_change-is_one.ensures)
          c.loop-before.invariant.text c.in_ok-put_if.ensures.text);
      calm = omega (arith, c.in_ok-put_if.ensures.cause.calm);
    }

pub returns-clause-text : goal.returns-clause-text
returns-clause-text g c =
    let path = c.args.path.now.settled in
    let before = c.loop-before.before in
    let past : length path ≤ before = search rules in
    whole_report _ c.put_totals.result _ path before c.loop-before.power c.loop-before.alarm _ past c.loop-before.invariant.text
    c.put_totals.ensures.text
