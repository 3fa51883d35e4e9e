use Rattle.std.proofs.Common.{ap}
use Rattle.lift_model.specs.Records.{Settings}
use Rattle.grant_model.proofs.senses.Senses.new.Goals as goal

pub returns : goal.returns
returns g c = record {
  sources = c.new.ensures;
  there = c.configured.ensures;
  watch = c.new-2.ensures c.args.config.now (ap (λ (s : Settings). s.disc) c.config.view_is)
      (ap (λ (s : Settings). s.door) c.config.view_is);
}
