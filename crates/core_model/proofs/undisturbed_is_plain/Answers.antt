use Rattle.core_model.proofs.PlainLemmas.{run_on, run_plain}
use Rattle.core_model.proofs.undisturbed_is_plain.Goals as goal

pub returns-clause-on : goal.returns-clause-on
returns-clause-on c config events s small run t old u some e = run_on config events s small run t old u some e

pub returns-clause-plain : goal.returns-clause-plain
returns-clause-plain c config events s small run t some old u = run_plain config events s small run t some old u
