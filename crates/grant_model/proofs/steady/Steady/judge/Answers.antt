use Rattle.std.proofs.Common.{sym, ap, ◌∙◌, arith}
use Rattle.std.proofs.lemmas.List.{length_push}
use Rattle.lift_model.specs.Grant.{verdict_of, verdict_at_end}
use Rattle.grant_model.proofs.SteadyLemmas.{verdict_push, before_push}
use Rattle.grant_model.proofs.steady.Steady.judge.Goals as goal

pub returns : goal.returns
returns g c config inputs x senses facts h = record {
  senses = senses;
  tells = record {
    at = omega (arith, length_push inputs x, h.at);
    verdict = c.judge-self.ensures ∙ (ap verdict_of facts ∙ sym (verdict_push config inputs x));
    before = h.verdict ∙ ap (verdict_at_end config) (sym (before_push inputs x));
  };
}
