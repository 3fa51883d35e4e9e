use Rattle.std.proofs.Common.{[], sym, subst, ap, ◌∙◌, arith}
use Rattle.std.proofs.lemmas.Result.{err_from_is_err_and}
use Rattle.std.specs.List.{slice_split}
use Rattle.can_log.specs.Taken.{LogData, at_lines, log_of}
use Rattle.can_log.proofs.Cuts.{is_feed, Splits, cut_splits}
use Rattle.can_log.proofs.OneLine.{line_taken, line_refused}
use Rattle.can_log.proofs.log.read_log.Goals as goal

pub loop-line-init : goal.loop-line-init
unfolding log_of
loop-line-init c = record {
  comes = ap (λ (log : LogData). at_lines log 1 (slice_split is_feed c.args.text.now)) c.open-log.ensures;
  few = omega arith;
}

pub returns-in_err-take_line : goal.returns-in_err-take_line
returns-in_err-take_line c =
    let p = err_from_is_err_and c.from_residual.result c.from_residual.ensures.1 in
    let splits = subst (Splits c.loop-line.rest.now) (sym c.in-Some.ensures) (cut_splits c.loop-line.rest.now) in
    let is = sym (ap (at_lines c.loop-line.log c.loop-line.number) splits.0) ∙ c.loop-line.invariant.comes in
    rw (p.1, p.2) (line_refused c.loop-line.log c.loop-line.number c.in-Some.line.now (slice_split is_feed c.in-Some.more.now)
    (log_of c.args.taking c.args.text.now) c.in_err-take_line.field-0.0 is c.in_err-take_line.ensures)

pub overflow_add-number : goal.overflow_add-number
overflow_add-number c =
    let splits = subst (Splits c.loop-line.rest.now) (sym c.in-Some.ensures) (cut_splits c.loop-line.rest.now) in
    omega (arith, splits.1, c.loop-line.invariant.few)

pub loop-line-preserved : goal.loop-line-preserved
loop-line-preserved c =
    let splits = subst (Splits c.loop-line.rest.now) (sym c.in-Some.ensures) (cut_splits c.loop-line.rest.now) in
    let is = sym (ap (at_lines c.loop-line.log c.loop-line.number) splits.0) ∙ c.loop-line.invariant.comes in
    record {
      comes = line_taken c.loop-line.log c.take_line.new.self c.loop-line.number c.in-Some.line.now (slice_split is_feed c.in-Some.more.now)
          (log_of c.args.taking c.args.text.now) is c.in_ok-take_line.ensures;
      few = omega (arith, splits.1, c.loop-line.invariant.few);
    }

pub returns-in_err-take_line-2 : goal.returns-in_err-take_line-2
returns-in_err-take_line-2 c =
    let p = err_from_is_err_and c.from_residual-in_err-take_line-2.result c.from_residual-in_err-take_line-2.ensures.1 in
    let splits = subst (Splits c.loop-line.rest.now) (sym c.in_default.ensures) (cut_splits c.loop-line.rest.now) in
    let is = sym (ap (at_lines c.loop-line.log c.loop-line.number) splits) ∙ c.loop-line.invariant.comes in
    rw (p.1, p.2) (line_refused c.loop-line.log c.loop-line.number c.loop-line.rest.now []
    (log_of c.args.taking c.args.text.now) c.in_err-take_line-2.field-0.0 is c.in_err-take_line-2.ensures)

pub returns : goal.returns
returns c =
    let splits = subst (Splits c.loop-line.rest.now) (sym c.in_default.ensures) (cut_splits c.loop-line.rest.now) in
    let is = sym (ap (at_lines c.loop-line.log c.loop-line.number) splits) ∙ c.loop-line.invariant.comes in
    sym (line_taken c.loop-line.log c.take_line-2.new.self c.loop-line.number c.loop-line.rest.now []
    (log_of c.args.taking c.args.text.now) is c.in_ok-take_line-2.ensures)

pub loop-line-smaller : goal.loop-line-smaller
loop-line-smaller c =
    let splits = subst (Splits c.loop-line.rest.now) (sym c.in-Some.ensures) (cut_splits c.loop-line.rest.now) in
    omega (arith, splits.1)
