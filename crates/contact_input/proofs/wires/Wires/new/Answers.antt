use Rattle.std.proofs.Common.{ℕ, refl, [], subst, sym}
use Rattle.std.proofs.lemmas.List.{get_or-replicate}
use Rattle.lift_model.specs.Wires.{words_at, is_discrepant}
use Rattle.lift_model.proofs.TickLemmas.{Counts-zero, latched-zero}
use Rattle.lift_model.specs.Ticks.{Counts}
use Rattle.contact_input.proofs.wires.Wires.new.Goals as goal
use Rattle.lift_base.specs.declared.wires.TheConstants.{WIRES}

pub returns : goal.returns
returns c = record {
  same_disc = refl;
  words = c.all_off-off.ensures;
  before = c.all_off-off.ensures;
  rows = λ i h. subst (λ (x : ℕ). Counts c.args.disc (λ t. is_discrepant (words_at [] t) i) 0 x)
      (sym (get_or-replicate {A = ℕ} WIRES i 0 0 h)) (Counts-zero c.args.disc (λ t. is_discrepant (words_at [] t) i));
  fault = sym (latched-zero _ _);
}
