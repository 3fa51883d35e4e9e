-- How a text of Form Replay that has a script is spelled: line by line, without the reader.
use Rattle.std.specs.Prelude.{ℕ, ◌≡◌, ◌≢◌, ◌<◌, ◌≤◌, ◌+◌, ◌-◌, ◌^◌, ◌==◌, ◌&&◌, ◌||◌, not, Bool, true, false, List, [], ◌∷◌, ◌++◌, length, if◌then◌else◌, codes, decimal, replicate, set, get_or, Ok}
use Rattle.std.specs.List.{flat_map, list_any, AllByRecursion}
use Rattle.lift_base.specs.declared.limits.TheConstants.{HEAD_TOO_LONG, LONGEST_LINE, MOST_FRAMES, MOST_LINES, MOST_TICKS}
use Rattle.can_frame.specs.Frames.{IsFrameData}
use Rattle.lift_base.specs.declared.Side.{Side}
use Rattle.lift_base.specs.declared.Side.TheVariants.{A, B}
use Rattle.lift_base.specs.declared.TheConstants.{SOURCES}
use Rattle.lift_config.specs.Head.{read_head}
use Rattle.lift_model.specs.Records.{FrameData, WireWords, InputData, FaultData}
use Rattle.can_frame.specs.Spelling.{frame_text}
use Rattle.script_model.specs.declared.sides.SideLine.{SideLine}
use Rattle.script_model.specs.declared.sides.SideLine.TheVariants.{Exchange, Fail, Hold, Word, Value, Contactor, Give, Dismiss}
use Rattle.script_model.specs.Faults.{no_faults, faults_with}
use Rattle.script_model.specs.Judging.{ScriptData}
use Rattle.script_model.specs.Text.{wires_text, truth_text, side_line_text}
use Rattle.script_model.specs.Valid.{IsSideLine}

-- a line other than `t`, `t N` and `e`: a remark with its bytes, a frame, the words of the wires, the true word of a source, or a fault
-- of a side
pub data EntryText : Type 0 where
  Remark : List ℕ → EntryText
  FrameIn : FrameData → EntryText
  WordsIn : WireWords → EntryText
  TruthIn : ℕ → ℕ → EntryText
  FaultIn : Side → SideLine → EntryText

-- the lines before a tick line, and how many ticks that line says
pub record Group : Type 0 where
  pub entries : List EntryText
  pub ticks : ℕ

-- ---- the texts

abbrev pub line_text : List ℕ → List ℕ
line_text line = line ++ 10 ∷ []

abbrev pub entry_line : EntryText → List ℕ
entry_line (Remark line) = line
entry_line (FrameIn f) = codes "f " ++ frame_text f
entry_line (WordsIn w) = wires_text w
entry_line (TruthIn j w) = truth_text j w
entry_line (FaultIn side l) = side_line_text side l

abbrev pub entry_text : EntryText → List ℕ
entry_text e = line_text (entry_line e)

-- one tick is never spelled `t 1`
abbrev pub ticks_line : ℕ → List ℕ
ticks_line n = if n == 1 then codes "t" else codes "t " ++ decimal n

abbrev pub group_text : Group → List ℕ
group_text g = flat_map entry_text g.entries ++ line_text (ticks_line g.ticks)

-- behind the head and its mark
abbrev pub body_of : List Group → List (List ℕ) → List ℕ → List ℕ
body_of groups remarks after = flat_map group_text groups ++ (flat_map line_text remarks ++ (codes "e" ++ after))

-- the lines of the head, the mark, the groups, remarks behind the last tick line, the end, and what stands behind it
abbrev pub spelled : List (List ℕ) → List Group → List (List ℕ) → List ℕ → List ℕ
spelled head groups remarks after = flat_map line_text head ++ (codes "%%\n" ++ body_of groups remarks after)

-- ---- what may stand in them

abbrev pub IsOneLine : List ℕ → Type 0
IsOneLine line = AllByRecursion (λ b. (b == 10) ≡ false) line

-- a line of the head is not the mark
pub record IsHeadLine (line : List ℕ) : Type 0 where
  pub one : IsOneLine line
  pub other : line ≢ codes "%%"

-- blank, or from a `#` on
abbrev pub BeginsRemark : List ℕ → Type 0
BeginsRemark [] = Unit {0}
BeginsRemark (c ∷ rest) = c ≡ 35

pub record IsRemark (line : List ℕ) : Type 0 where
  pub begins : BeginsRemark line
  pub one : IsOneLine line
  pub short : length line ≤ LONGEST_LINE

abbrev pub IsEntry : EntryText → Type 0
IsEntry (Remark line) = IsRemark line
IsEntry (FrameIn f) = IsFrameData f
IsEntry (WordsIn w) = (w.a < 2 ^ 16) × (w.b < 2 ^ 16)
IsEntry (TruthIn j w) = (1 ≤ j) × (j ≤ SOURCES) × (w < 2 ^ 16)
IsEntry (FaultIn side l) = IsSideLine l

-- what a line gives of each
abbrev pub frames_of : EntryText → List FrameData
frames_of (FrameIn f) = f ∷ []
frames_of _ = []

abbrev pub words_of : EntryText → List WireWords
words_of (WordsIn w) = w ∷ []
words_of _ = []

abbrev pub truth_of : ℕ → EntryText → List ℕ
truth_of j (TruthIn i w) = if i == j then w ∷ [] else []
truth_of j _ = []

-- up to 64 lines, with up to 16 frames, words at most once, and the true word of each source at most once; then a tick line
pub record IsGroup (g : Group) : Type 0 where
  pub entries : AllByRecursion IsEntry g.entries
  pub few : length g.entries ≤ MOST_LINES
  pub few_frames : length (flat_map frames_of g.entries) ≤ MOST_FRAMES
  pub words_once : length (flat_map words_of g.entries) ≤ 1
  pub truth_once : (j : ℕ) → 1 ≤ j → length (flat_map (truth_of j) g.entries) ≤ 1
  pub some_tick : 1 ≤ g.ticks
  pub most : g.ticks ≤ MOST_TICKS

-- ---- where a fault line may stand: lines before it are listed the newest first

-- those of one side
abbrev pub line_on : Side → EntryText → List SideLine
line_on A (FaultIn A l) = l ∷ []
line_on B (FaultIn B l) = l ∷ []
line_on side e = []

abbrev pub lines_on : Side → List EntryText → List SideLine
lines_on side es = flat_map (line_on side) es

-- none so far
abbrev pub is_first : List SideLine → Bool
is_first [] = true
is_first (l ∷ ls) = false

abbrev pub is_exchange : SideLine → Bool
is_exchange Exchange = true
is_exchange l = false

abbrev pub is_hold : SideLine → Bool
is_hold Hold = true
is_hold l = false

abbrev pub is_word : SideLine → Bool
is_word (Word w) = true
is_word l = false

abbrev pub is_value : SideLine → Bool
is_value (Value w) = true
is_value l = false

abbrev pub is_order : SideLine → Bool
is_order (Contactor order) = true
is_order l = false

abbrev pub is_gift : SideLine → Bool
is_gift (Give i) = true
is_gift l = false

-- place i is given away
abbrev pub is_gift_of : ℕ → SideLine → Bool
is_gift_of i (Give j) = i == j
is_gift_of i l = false

-- the side has failed: the newest failure or exchange is a failure
abbrev pub failed_behind : List SideLine → Bool
failed_behind [] = false
failed_behind (Exchange ∷ ls) = false
failed_behind (Fail ∷ ls) = true
failed_behind (l ∷ ls) = failed_behind ls

-- it holds an object: the newest gift, dismissal or exchange is a gift
abbrev pub holds_behind : List SideLine → Bool
holds_behind [] = false
holds_behind (Exchange ∷ ls) = false
holds_behind (Give i ∷ ls) = true
holds_behind (Dismiss ∷ ls) = false
holds_behind (l ∷ ls) = holds_behind ls

-- The line may stand behind those of its side, these of the tick and those of earlier ticks, where these places are free: `r` where it had
-- failed before the tick and has no line in it yet; `x` and `h` where it has not failed and is neither held nor exchanged in the tick, the
-- others where it has failed; none twice in a tick; a gift of a free place where it holds nothing, and a dismissal where it holds an object
-- that this tick did not give it.
abbrev pub may_stand_behind : (ℕ → Bool) → List SideLine → List SideLine → SideLine → Bool
may_stand_behind free now past Exchange = failed_behind past && is_first now
may_stand_behind free now past Fail = not (failed_behind (now ++ past)) && (not (list_any is_hold now) && not (list_any is_exchange now))
may_stand_behind free now past Hold = not (failed_behind (now ++ past)) && (not (list_any is_hold now) && not (list_any is_exchange now))
may_stand_behind free now past (Word w) = failed_behind (now ++ past) && not (list_any is_word now)
may_stand_behind free now past (Value w) = failed_behind (now ++ past) && not (list_any is_value now)
may_stand_behind free now past (Contactor order) = failed_behind (now ++ past) && not (list_any is_order now)
may_stand_behind free now past (Give i) = failed_behind (now ++ past) && (not (holds_behind (now ++ past)) && free i)
may_stand_behind free now past Dismiss = failed_behind (now ++ past) && (holds_behind (now ++ past) && not (list_any is_gift now))
may_stand_behind free now past l = false

-- a line of the side gives place i away
abbrev pub gave : ℕ → Side → List EntryText → Bool
gave i side es = list_any (is_gift_of i) (lines_on side es)

-- the crew has an object at place i, and none of these lines gave it away
abbrev pub is_free : List Bool → List EntryText → ℕ → Bool
is_free places es i = get_or places i false && not (gave i A es || gave i B es)

abbrev pub MayStand : List Bool → List EntryText → List EntryText → EntryText → Type 0
MayStand places now past (FaultIn side l) =
    may_stand_behind (is_free places (now ++ past)) (lines_on side now) (lines_on side past) l ≡ true
MayStand places now past e = Unit {0}

-- each of these lines may stand behind those before it
abbrev pub AllMayStand : List Bool → List EntryText → List EntryText → List EntryText → Type 0
AllMayStand places now past [] = Unit {0}
AllMayStand places now past (e ∷ es) = MayStand places now past e × AllMayStand places (e ∷ now) past es

-- the lines of the tick, with those of earlier ones behind them
abbrev pub put_before : List EntryText → List EntryText → List EntryText
put_before past [] = past
put_before past (e ∷ es) = put_before (e ∷ past) es

-- the same of groups of lines, tick line by tick line
abbrev pub GroupsMayStand : List Bool → List EntryText → List Group → Type 0
GroupsMayStand places past [] = Unit {0}
GroupsMayStand places past (g ∷ gs) = AllMayStand places [] past g.entries × GroupsMayStand places (put_before past g.entries) gs

-- nothing follows the end, or a line feed and anything
abbrev pub IsAfter : List ℕ → Type 0
IsAfter [] = Unit {0}
IsAfter (b ∷ bs) = b ≡ 10

-- ---- what they say

-- the words of the wires behind a line, and behind lines
abbrev pub words_by : WireWords → EntryText → WireWords
words_by words (WordsIn w) = w
words_by words _ = words

abbrev pub words_behind : WireWords → List EntryText → WireWords
words_behind words [] = words
words_behind words (e ∷ es) = words_behind (words_by words e) es

-- the true words of the sources
abbrev pub truth_by : List ℕ → EntryText → List ℕ
truth_by truth (TruthIn j w) = set truth (j - 1) w
truth_by truth _ = truth

abbrev pub truth_behind : List ℕ → List EntryText → List ℕ
truth_behind truth [] = truth
truth_behind truth (e ∷ es) = truth_behind (truth_by truth e) es

-- the faults of the sides
abbrev pub faults_by : FaultData → EntryText → FaultData
faults_by faults (FaultIn side l) = faults_with faults side l
faults_by faults _ = faults

abbrev pub faults_behind : FaultData → List EntryText → FaultData
faults_behind faults [] = faults
faults_behind faults (e ∷ es) = faults_behind (faults_by faults e) es

-- n ticks with these words, the first of them with the frames and the faults
abbrev pub inputs_with : List FrameData → FaultData → WireWords → List ℕ → ℕ → List InputData
inputs_with frames faults words truth n = record { frames = frames; words = words; truth = truth; faults = faults }
    ∷ replicate (n - 1) (record { frames = []; words = words; truth = truth; faults = no_faults })

-- the inputs of groups, behind these words: each word stays until it is given again
abbrev pub inputs_of : WireWords → List ℕ → List Group → List InputData
inputs_of words truth [] = []
inputs_of words truth (g ∷ gs) =
    let words' = words_behind words g.entries in
    let truth' = truth_behind truth g.entries in
    inputs_with (flat_map frames_of g.entries) (faults_behind no_faults g.entries) words' truth' g.ticks ++ inputs_of words' truth' gs

-- the text is spelled so, for a crew with these places, and this is the script that it says
pub record IsSpelled (places : List Bool) (text : List ℕ) (s : ScriptData) : Type 0 where
  pub head : List (List ℕ)
  pub groups : List Group
  pub remarks : List (List ℕ)
  pub after : List ℕ
  pub spelling : text ≡ spelled head groups remarks after
  pub head_lines : AllByRecursion IsHeadLine head
  -- the head and its mark end within the first 16,387 bytes
  pub head_few : length (flat_map line_text head) + 3 ≤ HEAD_TOO_LONG
  pub config : read_head (flat_map line_text head) ≡ Ok s.config
  pub group_lines : AllByRecursion IsGroup groups
  pub fault_lines : GroupsMayStand places [] groups
  pub remark_lines : AllByRecursion IsRemark remarks
  pub few_remarks : length remarks ≤ MOST_LINES
  pub end : IsAfter after
  pub few : length s.inputs ≤ s.config.ticks
  pub inputs : s.inputs ≡ inputs_of (record { a = 0; b = 0 }) (replicate SOURCES 0) groups
  pub steps : s.steps ≡ []
