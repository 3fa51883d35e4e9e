use Rattle.std.proofs.Common.{subst, sym}
use Rattle.script_model.specs.Meaning.{reading}
use Rattle.fault_script.specs.declared.reader.State.{State}
use Rattle.fault_script.specs.Reads.{HasRead}
use Rattle.fault_script.proofs.Readers.{read_keeps_form}
use Rattle.fault_script.proofs.reader.ScriptReader.finish.Goals as goal

pub returns-clause-rules : goal.returns-clause-rules
returns-clause-rules c = λ form places text read.
    let so_far = subst (λ (s : State). HasRead s form places text) (sym c.self.view_is) read in
    read_keeps_form form c.finish.result places text (c.finish.ensures.says (reading form places text) so_far)
