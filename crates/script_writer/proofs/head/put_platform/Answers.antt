use Rattle.std.proofs.Common.{ap}
use Rattle.lift_model.specs.Records.{Settings}
use Rattle.script_writer.proofs.head.put_platform.Goals as goal

pub returns-in-Some-clause-text : goal.returns-in-Some-clause-text
returns-in-Some-clause-text g c =
    let same = ap (λ (s : Settings). s.platform) c.config.view_is in
    rw (← same, c.in-Some.is, ← c.from.ensures) c.put_keys.ensures.text
