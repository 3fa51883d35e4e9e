-- The contact at which the chain is open.
use Rattle.std.specs.Prelude.{ℕ, Option}
use Rattle.lift_base.specs.declared.sources.TheConstants.{PANEL}
use Rattle.lift_base.specs.declared.panel_bits.TheConstants.{BYPASS_CAR, BYPASS_LANDING}
use Rattle.lift_model.specs.Enums.{Mode}
use Rattle.lift_model.specs.Chain.{source_has, inoperative, first_open}
use Rattle.lift_model.specs.Grant.{Facts}

-- the first contact that the mode looks at and that is not made (5.11.2)
abbrev pub gap_of : Facts → Mode → Option ℕ
gap_of f mode =
    first_open f.image f.there (inoperative mode (source_has f.image PANEL BYPASS_CAR) (source_has f.image PANEL BYPASS_LANDING))
