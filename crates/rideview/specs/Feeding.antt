-- What a reader was fed of a ride's text.
use Rattle.std.specs.Prelude.{ℕ, Bool, List}
use Rattle.lift_base.specs.declared.forms.Form.TheVariants.{Replay}
use Rattle.fault_script.specs.declared.reader.State.{State}
use Rattle.fault_script.specs.Reads.{HasRead}

-- some text of a replay, for a crew with these places
pub record WasFed (places : List Bool) (s : State) : Type 0 where
  pub text : List ℕ
  pub fed : HasRead s Replay places text
