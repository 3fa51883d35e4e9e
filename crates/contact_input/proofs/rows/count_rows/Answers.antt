use Rattle.std.proofs.Common.{◌≡◌, ℕ, zero, suc, ◌<◌, Bool, false, List, refl, sym, ◌∙◌, arith}
use Rattle.std.proofs.lemmas.Bool.{ne_eqb}
use Rattle.std.proofs.lemmas.List.{get_or-replicate}
use Rattle.lift_model.specs.Bits.{some_below}
use Rattle.lift_model.specs.Records.{WireWords}
use Rattle.lift_model.specs.Wires.{is_discrepant}
use Rattle.contact_input.specs.Rows.{next_row}
use Rattle.contact_input.proofs.rows.count_rows.Goals as goal
use Rattle.lift_base.specs.declared.wires.TheConstants.{WIRES}

-- where the wire is good, its row is over
over : (disc : ℕ) (words : WireWords) (rows : List ℕ) (i : ℕ) → is_discrepant words i ≡ false → next_row disc words rows i ≡ 0
over disc words rows i e = rw e refl

pub returns-then-is_none_discrepant-clause-rows : goal.returns-then-is_none_discrepant-clause-rows
returns-then-is_none_discrepant-clause-rows c i h =
    get_or-replicate {A = ℕ} WIRES i 0 0 h
    ∙ sym (over c.args.disc c.args.words c.args.rows.now i (c.is_none_discrepant.ensures c.if-is_none_discrepant.true i h))

none_below : (n : ℕ) (p : ℕ → Bool) → ((i : ℕ) → i < n → p i ≡ false) → some_below n p ≡ false
unfolding some_below
none_below zero p h = refl
none_below (suc n) p h = rw (none_below n p (λ i l. h i (omega arith)), h n (omega arith)) refl

pub returns-then-is_none_discrepant-clause-ended : goal.returns-then-is_none_discrepant-clause-ended
returns-then-is_none_discrepant-clause-ended c =
    sym (none_below 12 _
    (λ i h. rw (over c.args.disc c.args.words c.args.rows.now i (c.is_none_discrepant.ensures c.if-is_none_discrepant.true i h))
    (ne_eqb 0 c.args.disc (λ e. omega (arith, e, c.requires)))))
