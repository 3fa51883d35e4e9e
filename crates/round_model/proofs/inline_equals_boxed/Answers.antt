use Rattle.round_model.proofs.InlineLemmas as lemmas
use Rattle.round_model.proofs.inline_equals_boxed.Goals as goal

pub returns : goal.returns
returns c = lemmas.inline_equals_boxed
