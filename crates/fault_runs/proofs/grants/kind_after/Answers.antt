use Rattle.std.proofs.Common.{◌∙◌, arith, ap}
use Rattle.lift_base.specs.Ruling.{Ruling}
use Rattle.fault_runs.proofs.grants.kind_after.Goals as goal

pub catch_up-requires-clause-from : goal.catch_up-requires-clause-from
catch_up-requires-clause-from g c = (c.args.config.now, c.args.before, omega arith, c.requires.stands)

pub returns : goal.returns
returns g c =
    let stands = c.catch_up.ensures c.args.config.now c.args.before (omega arith) c.requires.stands in
    record { stands = stands; kind = ap (λ (v : Ruling). v.kind) (c.result.view_is ∙ c.verdict.ensures c.args.config.now _ stands) }
