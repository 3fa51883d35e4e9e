-- What a frame makes of a pair that is kept by tick numbers.
use Rattle.std.specs.Prelude.{ℕ, ◌+◌, ◌&&◌, nat_le, if◌then◌else◌, Option, Some, None}
use Rattle.lift_model.specs.Records.{FrameData}
use Rattle.lift_model.specs.Live.{judges, value_of}
use Rattle.srdo_deadline.specs.declared.dates.Waiting.{Waiting}
use Rattle.srdo_deadline.specs.declared.dates.Until.{Until}

-- what an inverted frame makes of the plain frame that waits, in this tick
abbrev pub until_with : Option Waiting → FrameData → ℕ → ℕ → ℕ → Option Until
until_with None y tick srvt sct = None
until_with (Some w) y tick srvt sct =
    if judges w.frame y && nat_le tick (w.came + srvt) then Some (record { value = value_of w.frame; last = tick + sct }) else None
