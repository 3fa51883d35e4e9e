-- What a line does to a reading that has come so far.
use Rattle.lift_base.specs.declared.limits.TheConstants.{MOST_FRAMES, MOST_LINES}
use Rattle.std.specs.Prelude.{ℕ, ◌+◌, ◌-◌, ◌*◌, nat_lt, List, [], ◌∷◌, ◌++◌, length, Bool, true, false, not, if◌then◌else◌, replicate, get_or, set, Option, Some, None}
use Rattle.core_model.specs.Schedule.{StepData, Tick}
use Rattle.lift_base.specs.declared.TheConstants.{SOURCES}
use Rattle.lift_base.specs.declared.forms.Form.{Form}
use Rattle.lift_base.specs.declared.forms.Form.TheVariants.{Replay, Schedule, Simulate}
use Rattle.lift_base.specs.declared.Side.{Side}
use Rattle.lift_model.specs.Records.{FrameData, WireWords, Settings, InputData, FaultData}
use Rattle.script_model.specs.declared.Line.{Line}
use Rattle.script_model.specs.declared.Line.TheVariants as line
use Rattle.script_model.specs.declared.Entry.{Entry}
use Rattle.script_model.specs.declared.Entry.TheVariants.{Blank, Frame, Wires, Truth, OfSide}
use Rattle.script_model.specs.declared.refusals.LineRefusal.{LineRefusal}
use Rattle.script_model.specs.declared.refusals.LineRefusal.TheVariants.{BadLine, TooManyTicks, TooManyFrames, TooManyLines}
use Rattle.script_model.specs.declared.acts.Act.{Act}
use Rattle.script_model.specs.declared.sides.SideLine.{SideLine}
use Rattle.script_model.specs.Acts.{act_data}
use Rattle.script_model.specs.Faults.{no_faults, Standings, all_stand, may_come, faults_with, standings_after, act_of}
use Rattle.script_model.specs.Lines.{line_of}

-- what a text says: the settings of its head, the inputs of its ticks, and, of a schedule, its steps
pub record ScriptData : Type 0 where
  pub config : Settings
  pub inputs : List InputData
  pub steps : List StepData

-- how far a reading has come
pub record Place : Type 0 where
  pub form : Form
  -- the script so far
  pub script : ScriptData
  -- since the last tick line: the frames, the faults, whether the wires were given, the sources whose word
  -- was given, whether a line waits for its tick, and the lines other than tick lines
  pub frames : List FrameData
  pub faults : FaultData
  pub wires_given : Bool
  pub truth_given : List Bool
  pub waiting : Bool
  pub others : ℕ
  -- how the two sides stand before this tick, and which places of the crew are left
  pub standings : Standings
  -- from this tick on: the words of the wires, and the true words of the sources
  pub words : WireWords
  pub truth : List ℕ

-- between two ticks, where the sides stand so, with these words
abbrev pub between : Form → ScriptData → Standings → WireWords → List ℕ → Place
between form script standings words truth = record {
  form = form;
  script = script;
  frames = [];
  faults = no_faults;
  wires_given = false;
  truth_given = replicate SOURCES false;
  waiting = false;
  others = 0;
  standings = standings;
  words = words;
  truth = truth;
}

-- at most so many lines lead to a place
abbrev pub weight : Place → ℕ
weight p = (MOST_LINES + 1) * length p.script.inputs + p.others

-- after the head: all words are 0, both sides are healthy, and these places of the crew hold an object
abbrev pub at_start : Form → List Bool → Settings → Place
at_start form places config =
    between form (record { config = config; inputs = []; steps = [] }) (all_stand places) (record { a = 0; b = 0 }) (replicate SOURCES 0)

-- a line leads to a place, ends the script or is refused
pub data Judged : Type 0 where
  More : Place → Judged
  Done : Judged
  Refused : LineRefusal → Judged

-- one more line that a tick may have
abbrev pub one_more : Place → Place
one_more p = record p { others = p.others + 1 }

-- and it waits for its tick
abbrev pub waits : Place → Place
waits p = record (one_more p) { waiting = true }

abbrev pub at_frame : Place → FrameData → Judged
at_frame p f =
    if nat_lt (length p.frames) MOST_FRAMES then More (record (waits p) { frames = p.frames ++ f ∷ [] }) else Refused TooManyFrames

abbrev pub at_wires : Place → ℕ → ℕ → Judged
at_wires p a b = if p.wires_given then Refused BadLine else More (record (waits p) { words = record { a = a; b = b }; wires_given = true })

abbrev pub at_truth : Place → ℕ → ℕ → Judged
at_truth p j w = if get_or p.truth_given (j - 1) false then Refused BadLine
    else More (record (waits p) { truth = set p.truth (j - 1) w; truth_given = set p.truth_given (j - 1) true })

-- the script with the step of a line
abbrev pub with_step : ScriptData → ℕ → Act → ScriptData
with_step script number act = record script { steps = script.steps ++ (record { line = number; act = act_data act }) ∷ [] }

-- a step waits for no tick
abbrev pub at_step : Place → ℕ → Option Act → Judged
at_step p number None = Refused BadLine
at_step p number (Some act) = More (record (one_more p) { script = with_step p.script number act })

-- a fault waits for its tick
abbrev pub at_fault : Place → Side → SideLine → Judged
at_fault p side l = if may_come p.standings p.faults side l
    then More (record (waits p) { faults = faults_with p.faults side l })
    else Refused BadLine

-- a step in a schedule, else a fault
abbrev pub side_line_in : Form → Place → ℕ → Side → SideLine → Judged
side_line_in Replay p number side l = at_fault p side l
side_line_in Schedule p number side l = at_step p number (act_of side l)
side_line_in Simulate p number side l = at_fault p side l

abbrev pub at_side_line : Place → ℕ → Side → SideLine → Judged
at_side_line p number side l = side_line_in p.form p number side l

abbrev pub at_entry : Place → ℕ → Entry → Judged
at_entry p number Blank = More (one_more p)
at_entry p number (Frame f) = at_frame p f
at_entry p number (Wires a b) = at_wires p a b
at_entry p number (Truth j w) = at_truth p j w
at_entry p number (OfSide side l) = at_side_line p number side l

abbrev pub is_simulation : Form → Bool
is_simulation Replay = false
is_simulation Schedule = false
is_simulation Simulate = true

-- a script of this form has such a line: a simulation has neither frames nor lines of a side
abbrev pub has_entry : Form → Entry → Bool
has_entry form Blank = true
has_entry form (Frame f) = not (is_simulation form)
has_entry form (Wires a b) = true
has_entry form (Truth j w) = true
has_entry form (OfSide side l) = not (is_simulation form)

-- a line that the form has, by what it does at this place
abbrev pub of_form : Place → Entry → Judged → Judged
of_form p entry judged = if has_entry p.form entry then judged else Refused BadLine

-- the input of the tick, and that of a tick that only goes on
abbrev pub input_at : Place → InputData
input_at p = record { frames = p.frames; words = p.words; truth = p.truth; faults = p.faults }

abbrev pub input_on : Place → InputData
input_on p = record { frames = []; words = p.words; truth = p.truth; faults = no_faults }

-- the steps of n ticks that a line says: a schedule alone has steps
abbrev pub tick_steps : Form → ℕ → ℕ → List StepData
tick_steps Replay number n = []
tick_steps Schedule number n = replicate n (record { line = number; act = Tick })
tick_steps Simulate number n = []

-- the place behind the n ticks of a line
abbrev pub ticked : Place → ℕ → ℕ → Place
ticked p number n = between p.form (record p.script {
  inputs = p.script.inputs ++ input_at p ∷ replicate (n - 1) (input_on p);
  steps = p.script.steps ++ tick_steps p.form number n;
}) (standings_after p.standings p.faults) p.words p.truth

abbrev pub at_tick : Place → ℕ → ℕ → Judged
at_tick p number n = if nat_lt p.script.config.ticks (length p.script.inputs + n) then Refused TooManyTicks else More (ticked p number n)

abbrev pub at_end : Place → Judged
at_end p = if p.waiting then Refused BadLine else Done

-- a line other than `t`, `t N` and `e`: not more than so many of them in one tick, whatever they are
abbrev pub counted : Place → Judged → Judged
counted p judged = if nat_lt p.others MOST_LINES then judged else Refused TooManyLines

-- what the line of this number does, by what it says
abbrev pub judged : Place → ℕ → Option Line → Judged
judged p number None = counted p (Refused BadLine)
judged p number (Some (line.Entry entry)) = counted p (of_form p entry (at_entry p number entry))
judged p number (Some (line.Tick n)) = at_tick p number n
judged p number (Some line.End) = at_end p

unfoldable pub judge_line : Place → ℕ → List ℕ → Judged
judge_line p number text = judged p number (line_of text)
