-- The one text of a script of Form Replay.
use Rattle.std.specs.Prelude.{ℕ, ◌+◌, ◌==◌, ◌&&◌, Bool, List, [], ◌∷◌, ◌++◌, if◌then◌else◌, codes, decimal, replicate, Option, Some, None}
use Rattle.std.specs.List.{flat_map}
use Rattle.lift_base.specs.declared.TheConstants.{SOURCES}
use Rattle.lift_config.specs.declared.Key.{Key}
use Rattle.lift_config.specs.declared.Key.TheVariants.{Version, Ticks, Sct, Srvt, Disc, DoorTicks, Roof, Pit, Car, Doors, Panel, Platform}
use Rattle.lift_config.specs.Head.{key_name}
use Rattle.lift_model.specs.Enums.{Side, A, B, Override, Keep, Follow, Force, Kind, Off, Full, Up, Down}
use Rattle.lift_model.specs.Records.{FrameData, WireWords, Settings, InputData, FaultData, SideFaultData}
use Rattle.can_frame.specs.Spelling.{hex4, hex16, frame_text}
use Rattle.script_model.specs.declared.sides.SideLine.{SideLine}
use Rattle.script_model.specs.declared.sides.SideLine.TheVariants.{Exchange, Fail, Hold, Word, Value, Contactor, Give, Dismiss, Sample, Publish, Look, Command}
use Rattle.script_model.specs.Judging.{ScriptData}

-- the keys of a head before that of the car, that one where there is a car, the keys behind it, and that of the platform where there is one
abbrev pub first_keys : Settings → List (Key × ℕ)
first_keys c = (Version, 2) ∷ (Ticks, c.ticks) ∷ (Sct, c.sct) ∷ (Srvt, c.srvt) ∷ (Disc, c.disc) ∷ (DoorTicks, c.door)
    ∷ (Roof, c.roof) ∷ (Pit, c.pit) ∷ []

abbrev pub car_key : Option ℕ → List (Key × ℕ)
car_key None = []
car_key (Some id) = (Car, id) ∷ []

abbrev pub last_keys : Settings → List (Key × ℕ)
last_keys c = (Doors, c.doors) ∷ (Panel, c.panel) ∷ []

abbrev pub platform_key : Option ℕ → List (Key × ℕ)
platform_key None = []
platform_key (Some id) = (Platform, id) ∷ []

-- a line of the head
abbrev pub key_text : Key × ℕ → List ℕ
key_text key = key_name key.0 ++ (codes " = " ++ (decimal key.1 ++ codes "\n"))

-- a line for each key
unfoldable pub head_text : Settings → List ℕ
head_text c = flat_map key_text (first_keys c) ++ (flat_map key_text (car_key c.car)
    ++ (flat_map key_text (last_keys c) ++ flat_map key_text (platform_key c.platform)))

-- a line for each frame
abbrev pub frames_text : List FrameData → List ℕ
frames_text [] = []
frames_text (f ∷ fs) = (codes "f " ++ frame_text f) ++ (10 ∷ frames_text fs)

abbrev pub wires_text : WireWords → List ℕ
wires_text w = codes "w " ++ (hex4 w.a ++ (codes " " ++ hex4 w.b))

-- a line where the words differ from those before
abbrev pub wires_part : WireWords → WireWords → List ℕ
wires_part before w = if (before.a == w.a) && (before.b == w.b) then [] else wires_text w ++ codes "\n"

abbrev pub truth_text : ℕ → ℕ → List ℕ
truth_text j w = codes "u " ++ ((j + 48) ∷ (codes " " ++ hex4 w))

-- a line for each true word that differs from the one before, from source j on
abbrev pub truth_part : ℕ → List ℕ → List ℕ → List ℕ
truth_part j (b ∷ before) (w ∷ words) = (if b == w then [] else truth_text j w ++ codes "\n") ++ truth_part (j + 1) before words
truth_part j _ _ = []

-- ---- the lines of one side

abbrev pub letter_of : Side → ℕ
letter_of A = 65
letter_of B = 66

-- the name of a kind to which a contactor is forced, and of an order; to keep it is no order
abbrev pub forced_name : Kind → List ℕ
forced_name Off = codes "off"
forced_name Full = codes "full"
forced_name Up = codes "up"
forced_name Down = codes "down"

abbrev pub order_name : Override → List ℕ
order_name Keep = []
order_name Follow = codes "follow"
order_name (Force kind) = forced_name kind

-- a letter and the side
abbrev pub bare_text : ℕ → Side → List ℕ
bare_text c side = c ∷ 32 ∷ letter_of side ∷ []

-- and more
abbrev pub text_with : ℕ → Side → List ℕ → List ℕ
text_with c side part = bare_text c side ++ (32 ∷ part)

abbrev pub side_line_text : Side → SideLine → List ℕ
side_line_text side Exchange = bare_text 114 side
side_line_text side Fail = bare_text 120 side
side_line_text side Hold = bare_text 104 side
side_line_text side (Word w) = text_with 112 side (hex16 w)
side_line_text side (Value w) = text_with 109 side (hex16 w)
side_line_text side (Contactor order) = text_with 99 side (order_name order)
side_line_text side (Give i) = text_with 103 side (decimal i)
side_line_text side Dismiss = bare_text 100 side
side_line_text side Sample = bare_text 115 side
side_line_text side Publish = bare_text 113 side
side_line_text side Look = bare_text 108 side
side_line_text side Command = bare_text 107 side

-- a line, where it is given
abbrev pub line_if : Bool → SideLine → Option SideLine
line_if given l = if given then Some l else None

abbrev pub line_of_some : (ℕ → SideLine) → Option ℕ → Option SideLine
line_of_some l None = None
line_of_some l (Some n) = Some (l n)

abbrev pub order_line : Override → Option SideLine
order_line Keep = None
order_line Follow = Some (Contactor Follow)
order_line (Force kind) = Some (Contactor (Force kind))

-- the lines that give a side its faults, in an order in which they may stand
abbrev pub lines_of_faults : SideFaultData → List (Option SideLine)
lines_of_faults f =
    line_if f.exchange Exchange ∷ line_if f.fail Fail ∷ line_if f.hold Hold ∷ line_if f.dismiss Dismiss ∷ line_of_some Give f.give
    ∷ line_of_some Word f.publish ∷ line_of_some Value f.command ∷ order_line f.contactor ∷ []

abbrev pub given_text : Side → Option SideLine → List ℕ
given_text side None = []
given_text side (Some l) = side_line_text side l ++ codes "\n"

unfoldable pub side_text : Side → SideFaultData → List ℕ
side_text side f = flat_map (given_text side) (lines_of_faults f)

-- those of A, and then of B
abbrev pub faults_text : FaultData → List ℕ
faults_text f = side_text A f.a ++ side_text B f.b

-- ---- ticks

-- the lines of one tick, behind these words and true words
abbrev pub tick_text : WireWords → List ℕ → InputData → List ℕ
tick_text words truth i = frames_text i.frames ++ (wires_part words i.words ++ (truth_part 1 truth i.truth
    ++ (faults_text i.faults ++ codes "t\n")))

abbrev pub ticks_text : WireWords → List ℕ → List InputData → List ℕ
ticks_text words truth [] = []
ticks_text words truth (i ∷ is) = tick_text words truth i ++ ticks_text i.words i.truth is

-- behind the head
abbrev pub body_text : List InputData → List ℕ
body_text inputs = ticks_text (record { a = 0; b = 0 }) (replicate SOURCES 0) inputs ++ codes "e\n"

unfoldable pub script_text : ScriptData → List ℕ
script_text s = head_text s.config ++ (codes "%%\n" ++ body_text s.inputs)
