-- What the reader's parts are seen as.
use Rattle.std.specs.Prelude.{ℕ, ◌+◌, Bool, List}
use Rattle.lift_base.specs.declared.forms.Form.{Form}
use Rattle.lift_config.specs.Head.{read_head}
use Rattle.script_model.specs.Judging.{Place}
use Rattle.script_model.specs.Meaning.{Reading, InHead, InLine, head_read}

-- the form, the places of the crew, the whole lines of a head so far, the bytes of the next, and its number
pub record HeadData : Type 0 where
  pub form : Form
  pub places : List Bool
  pub lines : List ℕ
  pub line : List ℕ
  pub number : ℕ

abbrev pub in_head : HeadData → Reading
in_head h = InHead h.form h.places h.lines h.line h.number

-- after the line `%%`, which makes so many bytes
abbrev pub behind_head : HeadData → ℕ → Reading
behind_head h used = head_read h.form h.places (read_head h.lines) (h.number + 1) used

-- the place behind the whole lines, the bytes of the next, and its number
pub record BodyData : Type 0 where
  pub place : Place
  pub line : List ℕ
  pub number : ℕ

abbrev pub in_line : BodyData → ℕ → Reading
in_line b used = InLine b.place b.number used b.line
