use Rattle.std.proofs.Common.{Bool, List, [], subst}
use Rattle.script_model.specs.Meaning.{InHead}
use Rattle.fault_script.specs.Reads.{Stands}
use Rattle.fault_script.proofs.reader.ScriptReader.open.Goals as goal

pub returns-clause-read : goal.returns-clause-read
returns-clause-read g c =
    subst (λ (places : List Bool). Stands c.«open».result (InHead c.args.form places [] [] 1)) c.places.ensures c.«open».ensures
