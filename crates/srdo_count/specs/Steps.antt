-- What a `CountSource` does with a frame.
use Rattle.std.specs.Prelude.{ℕ, ◌+◌, ◌-◌, nat_lt, Bool, true, false, if◌then◌else◌, Option, Some, None}
use Rattle.lift_model.specs.Records.{FrameData}
use Rattle.lift_model.specs.Live.{judges, value_of}
use Rattle.srdo_count.specs.declared.Newest.{Newest}
use Rattle.srdo_count.specs.declared.Newest.TheVariants.{NotPlain, Plain, LatePlain}
use Rattle.srdo_count.specs.declared.Live.{Live}

abbrev pub is_waiting : Newest → Bool
is_waiting NotPlain = false
is_waiting (Plain x left) = true
is_waiting LatePlain = true

abbrev pub pair_with : Newest → FrameData → ℕ → Option Live
pair_with NotPlain y sct = None
pair_with (Plain x left) y sct = if judges x y then Some (record { value = value_of x; left = sct + 1 }) else None
pair_with LatePlain y sct = None

abbrev pub older : Newest → Newest
older NotPlain = NotPlain
older (Plain x left) = if nat_lt 0 left then Plain x (left - 1) else LatePlain
older LatePlain = LatePlain

abbrev pub one_left : Option Live → Option Live
one_left None = None
one_left (Some live) = if nat_lt 0 live.left then Some (record { value = live.value; left = live.left - 1 }) else None
