-- What a `Wires` stands for.
use Rattle.std.specs.Prelude.{◌≡◌, ℕ, ◌<◌, ◌-◌, List, length, get_or}
use Rattle.lift_model.specs.Records.{WireWords}
use Rattle.lift_model.specs.Wires.{words_at, is_discrepant, has_contact_fault}
use Rattle.lift_model.specs.Ticks.{Counts}
use Rattle.contact_input.specs.declared.wires.Wires.{Wires}
use Rattle.lift_base.specs.declared.wires.TheConstants.{WIRES}

-- it counts to disc, and took these words, tick after tick
pub record StandsFor (wires : Wires) (disc : ℕ) (ticks : List WireWords) : Type 0 where
  pub same_disc : wires.disc ≡ disc
  pub words : wires.words ≡ words_at ticks (length ticks)
  pub before : wires.before ≡ words_at ticks (length ticks - 1)
  pub rows : (i : ℕ) → i < WIRES → Counts disc (λ t. is_discrepant (words_at ticks t) i) (length ticks) (get_or wires.rows i 0)
  pub fault : wires.fault ≡ has_contact_fault disc ticks (length ticks)
