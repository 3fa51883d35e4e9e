use Rattle.std.proofs.Common.{◌≡◌, ℕ, ◌+◌, true, sym, ap, ◌∙◌, Some}
use Rattle.std.specs.Prelude.{◌==◌}
use Rattle.lift_model.specs.Live.{Timed, is_plain, is_inverted}
use Rattle.srdo_deadline.specs.declared.dates.Waiting.{Waiting}
use Rattle.srdo_deadline.specs.Deadlines.{until_with}
use Rattle.srdo_deadline.proofs.DateLemmas.{plain_came, inverted_came}
use Rattle.srdo_deadline.proofs.DeadlineSourceConsumer.frame.Goals as goal

pub returns-then-is_plain : goal.returns-then-is_plain
returns-then-is_plain c source frames n h =
    let x : Timed = record { frame = c.args.frame.now; tick = n + 1 } in
    let is : is_plain source x ≡ true = ap (λ (p : ℕ). x.frame.id == p) (sym h.plain) ∙ (sym c.is_plain.ensures ∙ c.if-is_plain.true) in
    let after = plain_came c.args.self.now source frames n h x is in
    record {
      plain = h.plain;
      sct = h.sct;
      srvt = h.srvt;
      ended = h.ended;
      waiting = ap (λ (k : ℕ). Some (let w : Waiting = record { frame = c.args.frame.now; came = k + 1 } in w)) h.ended ∙ sym after.0;
      until = c.behind_plain-self.ensures ∙ sym after.1;
    }

pub returns-then-is_inverted : goal.returns-then-is_inverted
returns-then-is_inverted c source frames n h =
    let x : Timed = record { frame = c.args.frame.now; tick = n + 1 } in
    let it = c.args.self.now in
    let is : is_inverted source x ≡ true = ap (λ (p : ℕ). x.frame.id == p + 1) (sym h.plain)
    ∙ (sym c.is_inverted.ensures ∙ c.if-is_inverted.true) in
    let after = inverted_came it source frames n h x is in
    record {
      plain = h.plain;
      sct = h.sct;
      srvt = h.srvt;
      ended = h.ended;
      waiting = sym after.0;
      until = c.until_with-self.ensures ∙ (ap (λ (k : ℕ). until_with it.waiting c.args.frame.now (k + 1) it.srvt it.sct) h.ended
          ∙ sym after.1);
    }
