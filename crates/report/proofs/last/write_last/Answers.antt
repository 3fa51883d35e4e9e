use Rattle.std.proofs.Common.{arith, rules, ◌<◌, ◌≤◌, length}
use Rattle.std.proofs.lemmas.Result.{err_from_is_err_and}
use Rattle.report.proofs.LastLines.{line-written, line-cut, whole_last, is_last_text}
use Rattle.report.proofs.last.write_last.Goals as goal

pub returns-in_err-put_change-clause-text : goal.returns-in_err-put_change-clause-text
returns-in_err-put_change-clause-text g c =
    let changes = c.args.last.now.changes in
    let i = c.loop-i.i in
    let lt : i < length changes = search rules in
    let failed = err_from_is_err_and c.from_residual.result c.from_residual.ensures.1 in
    rw failed.1 (line-cut _ _ changes i c.get.result lt c.get.ensures c.loop-i.invariant.text c.in_err-put_change.ensures.text)

pub returns-in_err-put_change-clause-last : goal.returns-in_err-put_change-clause-last
returns-in_err-put_change-clause-last g c = λ keeps.
    let changes = c.args.last.now.changes in
    let i = c.loop-i.i in
    let lt : i < length changes = search rules in
    let failed = err_from_is_err_and c.from_residual.result c.from_residual.ensures.1 in
    rw (← is_last_text c.args.path.now.settled c.args.last.now keeps, failed.1)
    (line-cut _ _ changes i c.get.result lt c.get.ensures c.loop-i.invariant.text c.in_err-put_change.ensures.text)

pub loop-i-preserved : goal.loop-i-preserved
loop-i-preserved g c =
    let changes = c.args.last.now.changes in
    let i = c.loop-i.i in
    let lt : i < length changes = search rules in
    record {
      text = line-written _ _ changes i c.get.result lt c.get.ensures c.loop-i.invariant.text c.in_ok-put_change.ensures.text;
      calm = omega (arith, c.in_ok-put_change.ensures.cause.calm);
    }

pub returns-clause-text : goal.returns-clause-text
returns-clause-text g c =
    let changes = c.args.last.now.changes in
    let past : length changes ≤ c.loop-i.i = search rules in
    whole_last _ _ changes c.loop-i.i c.put_totals.result past c.loop-i.invariant.text c.put_totals.ensures.text

pub returns-clause-last : goal.returns-clause-last
returns-clause-last g c = λ keeps.
    let changes = c.args.last.now.changes in
    let past : length changes ≤ c.loop-i.i = search rules in
    rw (← is_last_text c.args.path.now.settled c.args.last.now keeps)
    (whole_last _ _ changes c.loop-i.i c.put_totals.result past c.loop-i.invariant.text c.put_totals.ensures.text)
