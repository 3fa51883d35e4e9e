use Rattle.std.proofs.Common.{◌≡◌, ◌<◌, ◌∙◌, ◌-◌, ◌+◌, refl, sym, ap, slice_get, length, Some, inl, inr, arith}
use Rattle.std.proofs.lemmas.Bool.{cases_lt}
use Rattle.std.proofs.lemmas.Option.{same_Some, slice_get_within}
use Rattle.lift_model.specs.Records.{InputData}
use Rattle.script_model.specs.Faults.{no_faults}
use Rattle.fault_runs.proofs.plain.is_faultless.Goals as goal

pub loop-before-preserved : goal.loop-before-preserved
loop-before-preserved c = λ i input few got. elim (cases_lt i c.loop-before.before) [
  | inl early ↦ c.loop-before.invariant i input early got
  | inr late ↦
      (let inputs = c.args.script.now.inputs in
      let now = c.get.result.now in
      let at : c.loop-before.before + 1 - 1 ≡ i = omega (arith, few, late) in
      let here : Some now ≡ slice_get inputs i = rw (sym c.trace-in-loop-before.ensures, sym at) c.get.ensures in
      let same : now ≡ input = same_Some now input (here ∙ got) in
      let none : now.faults ≡ no_faults =
      sym (ap (λ (i : InputData). i.faults) c.behind-trace.view_is) ∙ c.are_none.ensures.0 c.if-not-are_none.false in
      sym (ap (λ (i : InputData). i.faults) same) ∙ none)
]

pub returns : goal.returns
returns c = (
  λ _ i input got.
      let inputs = c.args.script.now.inputs in
      let within = slice_get_within inputs i input got in
      let long = ap (λ l. length l) c.trace.ensures in
      c.loop-before.invariant i input (omega (arith, within, long, c.len-before-end.ensures.value, c.loop-before-test.false)) got,
  λ _. refl,
)
