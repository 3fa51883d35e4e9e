-- A list of inputs: the frames of a source, the words of the wires, and the image of a tick. All own.
use Rattle.std.specs.Prelude.{ℕ, ◌+◌, ◌||◌, List, [], ◌∷◌, ◌++◌, map, filter, length, Bool, Option, Some, is_some, option_and_then}
use Rattle.lift_model.specs.Live.{Timed, Source, is_plain, is_inverted, live_value}
use Rattle.lift_model.specs.Records.{Settings, InputData, ImageData, WireWords}
use Rattle.lift_model.specs.Wires.{words_at}

-- the frames of the inputs in order, each with its tick, where the first input is of this tick
abbrev pub frames_from : ℕ → List InputData → List Timed
frames_from tick [] = []
frames_from tick (input ∷ inputs) = map (λ frame. record { frame = frame; tick = tick }) input.frames ++ frames_from (tick + 1) inputs

-- the frame list of a source: the frames with either of its two identifiers
abbrev pub frames_of : Source → List InputData → List Timed
frames_of source inputs = filter (λ x. is_plain source x || is_inverted source x) (frames_from 1 inputs)

-- the value of a source at the last of these ticks
abbrev pub value_at_end : Settings → ℕ → List InputData → Option ℕ
value_at_end config plain inputs =
    let source : Source = record { plain = plain; sct = config.sct; srvt = config.srvt } in
    live_value source (frames_of source inputs) (length inputs)

-- the words of the wires, those of tick 1 first
abbrev pub words_of : List InputData → List WireWords
words_of inputs = map (λ input. input.words) inputs

-- the plain identifiers of roof, pit, car, doors, panel, platform; car and platform have none where the head names none
abbrev pub identifiers : Settings → List (Option ℕ)
identifiers c = Some c.roof ∷ Some c.pit ∷ c.car ∷ Some c.doors ∷ Some c.panel ∷ c.platform ∷ []

-- of each source, whether it is configured
abbrev pub configured : Settings → List Bool
configured config = map is_some (identifiers config)

-- the image at the last of these ticks: the live values of the configured sources, and the wire words
unfoldable pub image_at_end : Settings → List InputData → ImageData
image_at_end config inputs = record {
  values = map (option_and_then (λ plain. value_at_end config plain inputs)) (identifiers config);
  words = words_at (words_of inputs) (length inputs);
}
