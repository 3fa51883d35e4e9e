-- A reader that was fed one text was fed some text, and so is one that was fed another piece.
use Rattle.std.proofs.Common.{ℕ, Bool, List, ◌++◌}
use Rattle.lift_base.specs.declared.forms.Form.{Form}
use Rattle.lift_base.specs.declared.forms.Form.TheVariants.{Replay}
use Rattle.fault_script.specs.declared.reader.State.{State}
use Rattle.fault_script.specs.Reads.{HasRead}
use Rattle.rideview.specs.Feeding.{WasFed}

pub was_fed : (places : List Bool) (s : State) (text : List ℕ) → HasRead s Replay places text → WasFed places s
was_fed places s text fed = record { text = text; fed = fed }

pub was_fed_more : (places : List Bool) (s t : State) (piece : List ℕ)
    → ((form : Form) (all : List Bool) (text : List ℕ) → HasRead s form all text → HasRead t form all (text ++ piece))
    → WasFed places s → WasFed places t
was_fed_more places s t piece more w = record { text = w.text ++ piece; fed = more Replay places w.text w.fed }
