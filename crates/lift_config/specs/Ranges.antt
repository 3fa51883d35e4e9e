-- The ranges that every config keeps.
use Rattle.std.specs.Prelude.{◌≡◌, ◌≤◌, true, [], ◌∷◌, Some, IfSome}
use Rattle.lift_model.specs.Records.{Settings}
use Rattle.lift_config.specs.Head.{fresh}
use Rattle.lift_base.specs.declared.limits.TheConstants.{MOST_TICKS, LONGEST_SPAN}

-- each number in its range, and no identifier twice
pub record IsInRange (c : Settings) : Type 0 where
  pub some_tick : 1 ≤ c.ticks
  pub ticks : c.ticks ≤ MOST_TICKS
  pub sct : c.sct ≤ LONGEST_SPAN
  pub some_srvt : 1 ≤ c.srvt
  pub srvt : c.srvt ≤ c.sct
  pub some_disc : 1 ≤ c.disc
  pub disc : c.disc ≤ LONGEST_SPAN
  pub some_door : 1 ≤ c.door
  pub door : c.door ≤ LONGEST_SPAN
  pub roof : fresh [] c.roof ≡ true
  pub pit : fresh (Some c.roof ∷ []) c.pit ≡ true
  pub car : IfSome c.car (λ id. fresh (Some c.roof ∷ Some c.pit ∷ []) id ≡ true)
  pub doors : fresh (Some c.roof ∷ Some c.pit ∷ c.car ∷ []) c.doors ≡ true
  pub panel : fresh (Some c.roof ∷ Some c.pit ∷ c.car ∷ Some c.doors ∷ []) c.panel ≡ true
  pub platform : IfSome c.platform (λ id. fresh (Some c.roof ∷ Some c.pit ∷ c.car ∷ Some c.doors ∷ Some c.panel ∷ []) id ≡ true)
