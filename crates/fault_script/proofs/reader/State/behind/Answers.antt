use Rattle.fault_script.specs.Reads.{Stands}
use Rattle.fault_script.proofs.reader.State.behind.Goals as goal

pub returns-in-Ok-clause-stands : goal.returns-in-Ok-clause-stands
unfolding Stands
returns-in-Ok-clause-stands c = λ used. (
  used,
  rw (c.form.ensures, c.places.ensures, c.lines.ensures, c.number.ensures.value) at
      (c.in-Ok.ensures used),
)

pub returns-in-Err-clause-stands : goal.returns-in-Err-clause-stands
unfolding Stands
returns-in-Err-clause-stands c = λ used. rw (c.form.ensures, c.places.ensures, c.lines.ensures, c.number.ensures.value) at
    (c.in-Err.ensures used)
