use Rattle.std.proofs.Common.{[], subst, sym}
use Rattle.script_model.proofs.Bytes.{take_bytes-append}
use Rattle.script_model.specs.Meaning.{InHead, reading}
use Rattle.fault_script.specs.declared.reader.State.{State}
use Rattle.fault_script.specs.Reads.{Stands, HasRead}
use Rattle.fault_script.specs.Tells.{Tells}
use Rattle.fault_script.proofs.reader.ScriptReader.feed.Goals as goal

pub returns-clause-read : goal.returns-clause-read
returns-clause-read c = λ form places text read.
    let so_far = subst (λ (s : State). HasRead s form places text) (sym c.self.view_is) read in
    let joined = take_bytes-append (InHead form places [] [] 1) text c.args.piece.now in
    subst (Stands c.feed.new.self) (sym joined) (c.feed.ensures.stands (reading form places text) so_far)

pub returns-clause-tells : goal.returns-clause-tells
returns-clause-tells c = λ form places text read.
    let so_far = subst (λ (s : State). HasRead s form places text) (sym c.self.view_is) read in
    let joined = take_bytes-append (InHead form places [] [] 1) text c.args.piece.now in
    subst (Tells c.feed.result (reading form places text)) (sym joined) (c.feed.ensures.tells (reading form places text) so_far)
