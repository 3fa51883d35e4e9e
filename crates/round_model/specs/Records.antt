-- What a side did in a round.
use Rattle.std.specs.Prelude.{ℕ, Bool, Option}
use Rattle.lift_base.specs.declared.Override.{Override}

-- one side: whether it acted, whether it has failed, what it stored and saw, and the order to its contactor
pub record TurnData : Type 0 where
  pub acted : Bool
  pub failed : Bool
  pub publish : Option ℕ
  pub seen : ℕ
  pub command : Option ℕ
  pub contactor : Override

-- both sides
pub record RoundData : Type 0 where
  pub a : TurnData
  pub b : TurnData
