use Rattle.std.proofs.Common.{◌≡◌, ℕ, ◌+◌, true, refl, sym, ap, ◌∙◌}
use Rattle.std.specs.Prelude.{◌==◌}
use Rattle.lift_model.specs.Live.{Timed, is_plain, is_inverted}
use Rattle.srdo_count.specs.declared.Newest.TheVariants.{Plain}
use Rattle.srdo_count.proofs.Counts.{after_plain, after_inverted}
use Rattle.srdo_count.proofs.CountSourceConsumer.frame.Goals as goal

pub returns-then-is_plain : goal.returns-then-is_plain
returns-then-is_plain c source frames n h =
    let x : Timed = record { frame = c.args.frame.now; tick = n + 1 } in
    let is : is_plain source x ≡ true = ap (λ (p : ℕ). x.frame.id == p) (sym h.plain) ∙ (sym c.is_plain.ensures ∙ c.if-is_plain.true) in
    let after = after_plain c.args.self.now source frames n h x refl is in
    record {
      plain = h.plain;
      sct = h.sct;
      srvt = h.srvt;
      newest = ap (λ (k : ℕ). Plain c.args.frame.now k) h.srvt ∙ sym after.0;
      live = c.behind_plain-self.ensures ∙ sym after.1;
    }

pub returns-then-is_inverted : goal.returns-then-is_inverted
returns-then-is_inverted c source frames n h =
    let x : Timed = record { frame = c.args.frame.now; tick = n + 1 } in
    let is : is_inverted source x ≡ true = ap (λ (p : ℕ). x.frame.id == p + 1) (sym h.plain)
    ∙ (sym c.is_inverted.ensures ∙ c.if-is_inverted.true) in
    let after = after_inverted c.args.self.now source frames n h x refl is in
    record {
      plain = h.plain;
      sct = h.sct;
      srvt = h.srvt;
      newest = sym after.0;
      live = c.pair_with-self.ensures ∙ sym after.1;
    }
