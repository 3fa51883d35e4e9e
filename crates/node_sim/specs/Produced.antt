-- The frames that the producers of the sources make of true words: a pair of each source once in a cycle. All own.
use Rattle.std.specs.Prelude.{ℕ, ◌+◌, ◌-◌, ◌/◌, ◌%◌, Bool, ◌&&◌, ◌==◌, nat_le, if◌then◌else◌, List, [], ◌∷◌, ◌++◌, Option, Some, None}
use Rattle.lift_model.specs.Records.{FrameData, Settings, InputData}
use Rattle.lift_model.specs.Trace.{identifiers}
use Rattle.lift_model.specs.Truth.{true_word}
use Rattle.script_model.specs.Faults.{no_faults}
use Rattle.script_model.specs.Judging.{ScriptData}

-- the source with number j, from 1, sends its plain frame at tick n: at tick j, and every cycle ticks after it
abbrev pub is_due : ℕ → ℕ → ℕ → Bool
is_due cycle j n = nat_le j n && (n - j) % cycle == 0

-- the plain frame of a word: the low byte, then the high byte
abbrev pub plain_frame : ℕ → ℕ → FrameData
plain_frame plain word = record { id = plain; bytes = (word % 256) ∷ (word / 256) ∷ [] }

-- the inverted frame of a word
abbrev pub inverted_frame : ℕ → ℕ → FrameData
inverted_frame plain word = record { id = plain + 1; bytes = (255 - word % 256) ∷ (255 - word / 256) ∷ [] }

-- what the source with number j sends at tick n: the plain frame of this tick's word, or the inverted frame of the word of the tick
-- before
abbrev pub frame_due : ℕ → ℕ → ℕ → ℕ → ℕ → ℕ → Option FrameData
frame_due cycle j plain n now before =
    if is_due cycle j n then Some (plain_frame plain now) else if is_due cycle j (n - 1) then Some (inverted_frame plain before) else None

-- the frame, where there is one
abbrev pub given : Option FrameData → List FrameData
given None = []
given (Some frame) = frame ∷ []

-- the frames of tick n in the order of the sources; the first of these has the index i
unfoldable pub frames_due : ℕ → List InputData → ℕ → ℕ → List (Option ℕ) → List FrameData
frames_due cycle trace n i [] = []
frames_due cycle trace n i (None ∷ rest) = frames_due cycle trace n (i + 1) rest
frames_due cycle trace n i (Some plain ∷ rest) =
    given (frame_due cycle (i + 1) plain n (true_word trace i n) (true_word trace i (n - 1))) ++ frames_due cycle trace n (i + 1) rest

-- the inputs with these frames in place of their own, and without faults; the first is of tick n, the true words are those of the whole
-- trace
unfoldable pub produced_from : ℕ → List (Option ℕ) → List InputData → ℕ → List InputData → List InputData
produced_from cycle ids trace n [] = []
produced_from cycle ids trace n (input ∷ inputs) =
    record { frames = frames_due cycle trace n 0 ids; words = input.words; truth = input.truth; faults = no_faults }
    ∷ produced_from cycle ids trace (n + 1) inputs

-- the trace that the producers make of this one
abbrev pub produced : Settings → ℕ → List InputData → List InputData
produced config cycle trace = produced_from cycle (identifiers config) trace 1 trace

-- the script that they make of this one
abbrev pub produced_script : ℕ → ScriptData → ScriptData
produced_script cycle script = record { config = script.config; inputs = produced script.config cycle script.inputs; steps = [] }
