use Rattle.std.proofs.Common.{arith, rules, ◌≡◌, ◌<◌, ◌≤◌, ◌+◌, ◌-◌, length, sym, ap}
use Rattle.std.proofs.lemmas.Result.{err_from_is_err_and}
use Rattle.core_model.specs.Supplies.{GivenData}
use Rattle.report.proofs.SupplyLines.{line-written, line-cut, whole_supply}
use Rattle.report.proofs.supply.write_supply.Goals as goal

pub returns-in_err-put_line_if-clause-text : goal.returns-in_err-put_line_if-clause-text
returns-in_err-put_line_if-clause-text g c =
    let given = c.args.supplies.now.given in
    let path = c.args.path.now.settled in
    let before = c.loop-before.before in
    let lt : before < length given = search rules in
    let lt' : before < length path = omega (arith, lt, c.requires) in
    let back : before + 1 - 1 ≡ before = omega arith in
    let as_given = rw back at c.get-given.ensures in
    let as_settled = rw back at c.get-settled.ensures in
    let p = err_from_is_err_and c.from_residual.result c.from_residual.ensures.1 in
    let as_supply = ap (λ (d : GivenData). d.supply) c.given.view_is in
    let as_alarm = ap (λ (d : GivenData). d.alarm) c.given.view_is in
    rw p.1 (line-cut _ _ given path before c.loop-before.last c.loop-before.alarm c.is_supply_change-is_one.result c.get-settled.result
    c.get-given.result lt lt' as_given as_settled (rw (as_supply, as_alarm) at c.is_supply_change-is_one.ensures)
    c.loop-before.invariant.text c.in_err-put_line_if.ensures.text)

pub loop-before-preserved : goal.loop-before-preserved
loop-before-preserved g c =
    let given = c.args.supplies.now.given in
    let path = c.args.path.now.settled in
    let before = c.loop-before.before in
    let lt : before < length given = search rules in
    let lt' : before < length path = omega (arith, lt, c.requires) in
    let back : before + 1 - 1 ≡ before = omega arith in
    let as_given = rw back at c.get-given.ensures in
    let as_settled = rw back at c.get-settled.ensures in
    let as_supply = ap (λ (d : GivenData). d.supply) c.given.view_is in
    let as_alarm = ap (λ (d : GivenData). d.alarm) c.given.view_is in
    record {
      text = rw (as_supply, as_alarm) (line-written _ _ given path before c.loop-before.last c.loop-before.alarm
          c.is_supply_change-is_one.result c.get-settled.result c.get-given.result lt lt' as_given as_settled
          (rw (as_supply, as_alarm) at c.is_supply_change-is_one.ensures) c.loop-before.invariant.text
          c.in_ok-put_line_if.ensures.text);
      calm = omega (arith, c.in_ok-put_line_if.ensures.cause.calm);
    }

pub returns-clause-text : goal.returns-clause-text
returns-clause-text g c =
    let given = c.args.supplies.now.given in
    let path = c.args.path.now.settled in
    let before = c.loop-before.before in
    let past : length given ≤ before = search rules in
    whole_supply _ _ given path before c.loop-before.last c.loop-before.alarm c.put_supply_totals.result past
    c.loop-before.invariant.text c.put_supply_totals.ensures.text
