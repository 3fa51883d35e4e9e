use Rattle.std.proofs.Common.{◌≡◌, ℕ, ◌≤◌, take, sym, ◌∙◌, subst, arith}
use Rattle.std.proofs.lemmas.List.{length-take-le}
use Rattle.grant_model.specs.Runs.{AllAre}
use Rattle.grant_model.proofs.Taken.{of_run}
use Rattle.grant_model.proofs.following.follow.Goals as goal

pub loop-at-init : goal.loop-at-init
loop-at-init g c config from le h =
    let inputs = c.args.trace.now.inputs in
    let here : from ≡ c.taken-at.result =
    sym (c.taken-at.ensures config (take from inputs) h ∙ length-take-le from inputs (omega (arith, le, c.requires.to))) in
    (omega (arith, here, le), subst (λ (k : ℕ). g.F.Follower.stands c.args.follower.now config (take k inputs)) here h)

pub take_run-requires : goal.take_run-requires
take_run-requires g c =
    let inputs = c.args.trace.now.inputs in
    let told = c.requires.from in
    let run = c.run_end.ensures in
    let len = c.len-short.ensures in (
      told.0,
      inputs,
      (c.loop-at.invariant told.0 told.1 told.2 told.3).1,
      omega (arith, c.min-end.ensures, run.from, c.loop-at-test.true),
      omega (arith, c.min-end.ensures, run.to),
      omega (arith, len.value, len.fits, len.small),
      subst (AllAre inputs c.get.result.now c.loop-at.at) (sym c.min-end.ensures)
          (of_run inputs c.loop-at.at c.run_end.result c.args.n c.get.result.now run c.get.ensures),
    )

pub loop-at-preserved : goal.loop-at-preserved
loop-at-preserved g c config from le h =
    let inputs = c.args.trace.now.inputs in
    let run = c.run_end.ensures in
    let more : c.loop-at.at ≤ c.min-end.result = omega (arith, c.min-end.ensures, run.from, c.loop-at-test.true) in
    let all : AllAre inputs c.get.result.now c.loop-at.at c.min-end.result =
    subst (AllAre inputs c.get.result.now c.loop-at.at) (sym c.min-end.ensures)
    (of_run inputs c.loop-at.at c.run_end.result c.args.n c.get.result.now run c.get.ensures) in (
      omega (arith, c.min-end.ensures),
      c.take_run.ensures config inputs (c.loop-at.invariant config from le h).1 more (omega (arith, c.min-end.ensures, run.to)) all,
    )

pub loop-at-smaller : goal.loop-at-smaller
loop-at-smaller g c = omega (arith, c.min-end.ensures, c.run_end.ensures.from, c.loop-at-test.true)

pub returns : goal.returns
returns g c config from le h =
    let inputs = c.args.trace.now.inputs in
    let inv = c.loop-at.invariant config from le h in
    let end : c.loop-at.at ≡ c.args.n = omega (arith, inv.0, c.loop-at-test.false) in
    subst (λ (k : ℕ). g.F.Follower.stands c.loop-at.follower config (take k inputs)) end inv.1
