-- The text of a log's script: ticks that only go on stand together, as `t N` (own).
use Rattle.std.specs.Prelude.{ℕ, ◌≡◌, ◌+◌, ◌==◌, ◌&&◌, Bool, List, [], ◌∷◌, ◌++◌, length, if◌then◌else◌, codes, replicate}
use Rattle.lift_base.specs.declared.TheConstants.{SOURCES}
use Rattle.lift_model.specs.Records.{WireWords, InputData}
use Rattle.script_model.specs.Faults.{no_faults}
use Rattle.script_model.specs.Judging.{ScriptData}
use Rattle.script_model.specs.Text.{head_text, frames_text, wires_part}
use Rattle.script_laws.specs.Spelling.{line_text, ticks_line}
use Rattle.can_log.specs.Scripts.{all_zero}

-- the line of so many ticks, where there are any
abbrev pub ticks_part : ℕ → List ℕ
ticks_part n = if n == 0 then [] else line_text (ticks_line n)

-- a tick without a line of its own: it has no frames, and the words are those before
abbrev pub is_quiet : WireWords → InputData → Bool
is_quiet before i = (length i.frames == 0) && ((before.a == i.words.a) && (before.b == i.words.b))

-- the lines of a tick, behind these words
abbrev pub lines_text : WireWords → InputData → List ℕ
lines_text before i = frames_text i.frames ++ wires_part before i.words

-- the ticks behind so many that have no line yet
abbrev pub runs_text : WireWords → ℕ → List InputData → List ℕ
runs_text before n [] = ticks_part n
runs_text before n (i ∷ is) =
    if is_quiet before i then runs_text before (n + 1) is else ticks_part n ++ (lines_text before i ++ runs_text i.words 1 is)

unfoldable pub log_text : ScriptData → List ℕ
log_text s = head_text s.config ++ (codes "%%\n" ++ (runs_text all_zero 0 s.inputs ++ codes "e\n"))

-- an input that a log can say: neither true words nor faults
pub record IsHeard (i : InputData) : Type 0 where
  pub truth : i.truth ≡ replicate SOURCES 0
  pub faults : i.faults ≡ no_faults
