use Rattle.script_model.specs.Meaning.{meaning, outcome}
use Rattle.script_laws.proofs.Meanings.{either_of, not_both, ok_once, err_once}
use Rattle.script_laws.proofs.exactly_one_meaning.Goals as goal

pub returns-clause-either : goal.returns-clause-either
returns-clause-either c = λ form places text. either_of (outcome (meaning form places text))

pub returns-clause-one : goal.returns-clause-one
returns-clause-one c = λ form places text s r means refused. not_both (outcome (meaning form places text)) s r means refused

pub returns-clause-script : goal.returns-clause-script
returns-clause-script c = λ form places text s t first second. ok_once (outcome (meaning form places text)) s t first second

pub returns-clause-refusal : goal.returns-clause-refusal
returns-clause-refusal c = λ form places text q r first second. err_once (outcome (meaning form places text)) q r first second
