-- Where a line leads the place.
use Rattle.std.specs.Prelude.{◌≡◌, ◌≤◌, ◌+◌, ◌*◌}
use Rattle.lift_base.specs.declared.limits.TheConstants.{MOST_LINES, MOST_TICKS}
use Rattle.script_model.specs.Judging.{Place, Judged, More, Done, Refused}
use Rattle.script_model.specs.Judging.{weight}
use Rattle.fault_script.specs.declared.went.LineWent.{LineWent}
use Rattle.fault_script.specs.declared.went.LineWent.TheVariants as went

-- a line does what it is judged to do; where it leads no further, the place is as it was
abbrev pub Takes : LineWent → Place → Place → Judged → Type 0
Takes went.More old new judged = judged ≡ More new
Takes went.Whole old new judged = (judged ≡ Done) × (new ≡ old)
Takes (went.Refused refusal) old new judged = (judged ≡ Refused refusal) × (new ≡ old)
Takes went.NoMemory old new judged = new ≡ old

-- a line that goes on makes the place weigh more, up to what the ticks of a head allow
abbrev pub Grows : LineWent → Place → Place → Type 0
Grows went.More old new = (weight old + 1 ≤ weight new) × (weight new ≤ (MOST_LINES + 1) * MOST_TICKS + MOST_LINES)
Grows _ old new = Unit {0}
