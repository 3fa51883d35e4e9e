-- What a reader was fed of a source.
use Rattle.std.specs.Prelude.{ℕ, ◌⊎◌, Bool, List}
use Rattle.std.specs.declared.option.Option.{Option}
use Rattle.std.specs.Io.KnownBytes.{Consumes, IsAtEnd}
use Rattle.lift_base.specs.declared.forms.Form.{Form}
use Rattle.script_model.specs.Meaning.{IsOpen, reading}
use Rattle.fault_script.specs.declared.reader.State.{State}
use Rattle.fault_script.specs.Reads.{HasRead}

-- all that was taken off the source, which had these bytes left and has those
pub record WasFed (form : Form) (places : List Bool) (s : State) (left after : Option (List ℕ)) : Type 0 where
  pub taken : List ℕ
  pub fed : HasRead s form places taken
  pub consumed : Consumes left after taken

-- and it goes on
pub record GoesOn (form : Form) (places : List Bool) (s : State) (left after : Option (List ℕ)) : Type 0 where
  pub it : WasFed form places s left after
  pub open_yet : IsOpen (reading form places it.taken)

-- and that tells the meaning: the text has ended, or the input has
pub record IsFed (form : Form) (places : List Bool) (s : State) (left after : Option (List ℕ)) : Type 0 where
  pub it : WasFed form places s left after
  pub ended : (IsOpen (reading form places it.taken) → ⊥) ⊎ IsAtEnd after
