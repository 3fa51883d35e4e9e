use Rattle.std.proofs.Common.{◌+◌, ◌∙◌, [], List, ℕ, length, ap, sym, arith, append-nil}
use Rattle.script_model.specs.Meaning.{stopped_by, take_bytes}
use Rattle.fault_script.specs.Views.{BodyData, in_line}
use Rattle.fault_script.proofs.WholeLines.{line_begun}
use Rattle.fault_script.proofs.Feeding.{too_long}
use Rattle.fault_script.proofs.body.Body.begin_line.Goals as goal

pub returns-then-is_too_long-clause-err : goal.returns-then-is_too_long-clause-err
returns-then-is_too_long-clause-err c = λ used.
    let number = ap (λ (b : BodyData). b.number) (sym c.self.view_is) in
    let long = too_long c.args.self.now _ c.args.bytes.now [] number c.requires (omega arith) (omega arith) used in
    ap (λ (x : List ℕ). stopped_by (take_bytes (in_line c.args.self.now used) x)) (sym (append-nil c.args.bytes.now)) ∙ long

pub returns-clause-ok : goal.returns-clause-ok
returns-clause-ok c = λ used.
    let now = c.args.self.now in
    line_begun now.place now.number used now.line c.args.bytes.now c.requires (omega arith)
    ∙ ap (λ (b : BodyData). in_line b (used + length c.args.bytes.now)) (sym c.keep.ensures)
