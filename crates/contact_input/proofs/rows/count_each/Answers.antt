use Rattle.std.proofs.Common.{◌||◌, Bool, ◌≡◌, ℕ, ◌+◌, ◌<◌, ◌≢◌, length, ◌==◌, refl, sym, ◌∙◌, arith, below_more, get_or-set_other, get_or-set_same}
use Rattle.std.proofs.lemmas.List.{length-set}
use Rattle.lift_model.specs.Bits.{some_below}
use Rattle.contact_input.specs.Rows.{next_row}
use Rattle.lift_model.proofs.BitLemmas.{some_below-zero, some_below-more}
use Rattle.contact_input.proofs.rows.count_each.Goals as goal

pub loop-wire-init : goal.loop-wire-init
loop-wire-init c = record {
  long = c.told-rows;
  done = λ i h. absurd (omega arith);
  left = λ i h. refl;
  ended = sym (some_below-zero _);
}

pub loop-wire-preserved : goal.loop-wire-preserved
loop-wire-preserved c = record {
  long = length-set _ _ _ ∙ c.loop-wire.invariant.long;
  done = below_more _ _
      (λ k h. let ne : k ≢ c.loop-wire.wire = omega arith in rw get_or-set_other (c.loop-wire.invariant.done k h))
      (let lt : c.loop-wire.wire < length c.loop-wire.rows = omega arith in
      rw (
        get_or-set_same,
        c.row_after-row.ensures,
        c.is_discrepant.ensures,
        c.loop-wire.invariant.left c.loop-wire.wire
            (omega arith),
      ) refl);
  left = λ i h. let ne : i ≢ c.loop-wire.wire = omega arith in rw get_or-set_other (c.loop-wire.invariant.left i (omega arith));
  ended =
      let f : ℕ → Bool = λ i. next_row c.args.disc c.args.words c.args.rows.now i == c.args.disc in
      let row : c.row_after-row.result ≡ next_row c.args.disc c.args.words c.args.rows.now c.loop-wire.wire = rw (
        c.row_after-row.ensures,
        c.is_discrepant.ensures,
        c.loop-wire.invariant.left c.loop-wire.wire (omega arith),
      ) refl in
      let more : some_below (c.loop-wire.wire + 1) f ≡ (some_below c.loop-wire.wire f
      || f c.loop-wire.wire) = some_below-more c.loop-wire.wire f in
      c.or-ended.ensures ∙ (rw (c.loop-wire.invariant.ended, row) (sym more));
}
