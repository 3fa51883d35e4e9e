use Rattle.std.proofs.Common.{refl, sym, ◌∙◌}
use Rattle.grant_model.proofs.Ends.{verdict-none}
use Rattle.grant_model.proofs.steady.Steady.new.Goals as goal

pub returns : goal.returns
returns g c = record {
  senses = c.new.ensures;
  tells = record {
    at = refl;
    verdict = c.initial.ensures ∙ sym (verdict-none c.args.config.now);
    before = c.initial-2.ensures ∙ sym (verdict-none c.args.config.now);
  };
}
