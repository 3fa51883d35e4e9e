use Rattle.std.proofs.Common.{◌≡◌, ◌+◌, ◌++◌, ◌∷◌, ◌∙◌, [], ℕ, List, length, ap, sym, arith}
use Rattle.std.proofs.lemmas.Bool.{eqb-true}
use Rattle.script_model.specs.Judging.{judge_line}
use Rattle.script_model.specs.Meaning.{line_ends}
use Rattle.fault_script.specs.Views.{BodyData}
use Rattle.fault_script.proofs.WholeLines.{line_whole, nil_of_length}
use Rattle.fault_script.proofs.Feeding.{too_long, went_along}
use Rattle.fault_script.proofs.body.Body.take_line.Goals as goal

pub returns-then-is_too_long : goal.returns-then-is_too_long
returns-then-is_too_long c = λ used.
    let number = ap (λ (b : BodyData). b.number) (sym c.self.view_is) in
    too_long c.args.self.now _ c.args.bytes.now (10 ∷ []) number c.requires (omega arith) (omega arith) used

pub returns-then-is_empty : goal.returns-then-is_empty
returns-then-is_empty c = λ used.
    let now = c.args.self.now in
    let n = length c.args.bytes.now + 1 in
    let kept = c.self.inside.line.items in
    let empty : kept ≡ [] = nil_of_length kept (eqb-true _ _ (sym c.is_empty.ensures ∙ c.if-is_empty.true)) in
    let none : now.line ≡ [] = ap (λ (b : BodyData). b.line) (sym c.self.view_is) ∙ empty in
    let bytes = c.args.bytes.now in
    let whole = line_whole now.place now.number used now.line bytes c.requires (omega arith) in
    let same = ap (λ (x : List ℕ). line_ends now.place (judge_line now.place now.number (x ++ bytes)) now.number (used + n)) none in
    went_along _ _ (used + n) _ _ (whole ∙ same) (c.judge.ensures (used + n))

pub returns : goal.returns
returns c = λ used.
    let now = c.args.self.now in
    let n = length c.args.bytes.now + 1 in
    let whole = line_whole now.place now.number used now.line c.args.bytes.now c.requires (omega arith) in
    let same = ap (λ (b : BodyData). line_ends b.place (judge_line b.place b.number b.line) b.number (used + n)) (sym c.keep.ensures) in
    went_along _ _ (used + n) _ _ (whole ∙ same) (c.end_line.ensures (used + n))
