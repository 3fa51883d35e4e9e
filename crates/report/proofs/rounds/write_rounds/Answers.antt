use Rattle.std.proofs.Common.{arith, rules, ◌<◌, ◌≤◌, length}
use Rattle.std.proofs.lemmas.Result.{err_from_is_err_and}
use Rattle.report.proofs.RoundLines.{there, line-written, line-cut, whole_rounds}
use Rattle.report.proofs.rounds.write_rounds.Goals as goal

pub returns-in_err-put_round_after-clause-text : goal.returns-in_err-put_round_after-clause-text
returns-in_err-put_round_after-clause-text g c =
    let run = c.args.run.now in
    let before = c.loop-before.before in
    let lt : before < length run.rounds = search rules in
    let lt' : before < length run.path.settled = omega (arith, c.requires) in
    let failed = err_from_is_err_and c.from_residual.result c.from_residual.ensures.1 in
    rw failed.1 (line-cut _ _ run.path.settled run.rounds before lt' lt c.loop-before.invariant.text
    (c.in_err-put_round_after.ensures.text _ (there run.rounds before lt)))

pub loop-before-preserved : goal.loop-before-preserved
loop-before-preserved g c =
    let run = c.args.run.now in
    let before = c.loop-before.before in
    let lt : before < length run.rounds = search rules in
    let lt' : before < length run.path.settled = omega (arith, c.requires) in
    record {
      text = line-written _ _ run.path.settled run.rounds before lt' lt c.loop-before.invariant.text
          (c.in_ok-put_round_after.ensures.text _ (there run.rounds before lt));
      calm = omega (arith, c.in_ok-put_round_after.ensures.cause.calm);
    }

pub returns-clause-text : goal.returns-clause-text
returns-clause-text g c =
    let run = c.args.run.now in
    let before = c.loop-before.before in
    let past : length run.path.settled ≤ before = search rules in
    whole_rounds _ _ run.path.settled run.rounds before c.put_totals.result past c.loop-before.invariant.text
    (rw c.path.ensures at c.put_totals.ensures.text)
