-- The value of a source, by pairs of a plain frame and its inverted frame (EN 50325-5; that time is counted in ticks is own).
use Rattle.std.specs.Prelude.{ℕ, ◌+◌, ◌-◌, ◌*◌, Bool, ◌&&◌, ◌||◌, ◌==◌, nat_le, if◌then◌else◌, List, [], ◌∷◌, ◌++◌, reverse, length, slice_index, Option, Some, None}
use Rattle.lift_model.specs.Records.{FrameData}
use Rattle.lift_model.specs.Bits.{or_else}

-- a frame, and the tick in which it came
pub record Timed : Type 0 where
  pub frame : FrameData
  pub tick : ℕ

-- what a consumer is told of its source: the plain identifier, how long a pair counts, and how far apart its frames may be
pub record Source : Type 0 where
  pub plain : ℕ
  pub sct : ℕ
  pub srvt : ℕ

-- the frame has the plain identifier
abbrev pub is_plain : Source → Timed → Bool
is_plain source x = x.frame.id == source.plain

-- the frame has the identifier of the inverted frame, which is the next number
abbrev pub is_inverted : Source → Timed → Bool
is_inverted source x = x.frame.id == source.plain + 1

-- both have two bytes, and those of the second are the inverse of the first's (EN 50325-5)
abbrev pub judges : FrameData → FrameData → Bool
judges x y = length x.bytes == 2 && length y.bytes == 2
    && slice_index y.bytes 0 == 255 - slice_index x.bytes 0 && slice_index y.bytes 1 == 255 - slice_index x.bytes 1

-- a valid pair: plain, then inverted, they judge well, and their ticks are at most srvt apart (EN 50325-5)
unfoldable pub is_pair : Source → Timed → Timed → Bool
is_pair source x y = is_plain source x && is_inverted source y && judges x.frame y.frame && nat_le y.tick (x.tick + source.srvt)

-- the two newest frames, where they are a pair; the newest frame stands first
abbrev pub front_pair : Source → List Timed → Option (Timed × Timed)
front_pair source [] = None
front_pair source (y ∷ []) = None
front_pair source (y ∷ x ∷ earlier) = if is_pair source x y then Some (x, y) else None

-- the two newest frames, or the two behind one plain frame, where they are a pair
abbrev pub newest_pair : Source → List Timed → Option (Timed × Timed)
newest_pair source [] = None
newest_pair source (z ∷ earlier) = or_else (front_pair source (z ∷ earlier)) (if is_plain source z then front_pair source earlier else None)

-- the source's pair: its frames end in it, or in it and one plain frame
abbrev pub pair_of : Source → List Timed → Option (Timed × Timed)
pair_of source frames = newest_pair source (reverse frames)

-- the word of a plain frame: the first byte, and 256 times the second
abbrev pub value_of : FrameData → ℕ
value_of x = slice_index x.bytes 0 + 256 * slice_index x.bytes 1

-- the value of this pair at tick s: live for sct ticks behind its inverted frame (EN 50325-5)
abbrev pub value_while : Source → ℕ → Option (Timed × Timed) → Option ℕ
value_while source s None = None
value_while source s (Some pair) = if nat_le s (pair.1.tick + source.sct) then Some (value_of pair.0.frame) else None

-- the value at tick s, where the list has the source's frames up to it
abbrev pub live_value : Source → List Timed → ℕ → Option ℕ
live_value source frames s = value_while source s (pair_of source frames)

-- the frames, and one more where it is one of the source's
abbrev pub and_frame : Source → List Timed → Timed → List Timed
and_frame source frames x = if is_plain source x || is_inverted source x then frames ++ x ∷ [] else frames

-- the frames, and those of one tick more
abbrev pub and_frames : Source → List Timed → List FrameData → ℕ → List Timed
and_frames source frames [] tick = frames
and_frames source frames (x ∷ xs) tick = and_frames source (and_frame source frames (record { frame = x; tick = tick })) xs tick
