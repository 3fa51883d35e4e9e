-- What a text means: read byte by byte, it ends in a script or in its first refusal.
use Rattle.lift_base.specs.declared.limits.TheConstants.{LONGEST_LINE, HEAD_TOO_LONG}
use Rattle.std.specs.Prelude.{ℕ, ◌≡◌, ◌+◌, ◌==◌, nat_lt, Bool, List, [], ◌∷◌, ◌++◌, length, false, if◌then◌else◌, codes, Option, None, Some, Result, Ok, Err}
use Rattle.std.specs.List.{AllByRecursion}
use Rattle.std.specs.Str.{bytes_eq}
use Rattle.lift_base.specs.declared.forms.Form.{Form}
use Rattle.lift_config.specs.declared.ConfigFault.{ConfigFault}
use Rattle.lift_config.specs.Head.{read_head}
use Rattle.lift_model.specs.Records.{Settings}
use Rattle.script_model.specs.declared.refusals.LineRefusal.TheVariants.{LineTooLong}
use Rattle.script_model.specs.declared.refusals.Refusal.{Refusal}
use Rattle.script_model.specs.declared.refusals.Refusal.TheVariants.{BadHead, HeadSize, Line, NoEnd}
use Rattle.script_model.specs.Judging.{ScriptData, Place, at_start, Judged, More, Done, Refused, judge_line}

-- no line feed among them
abbrev pub NoFeed : List ℕ → Type 0
NoFeed bytes = AllByRecursion (λ b. (b == 10) ≡ false) bytes

-- how far a text was read
pub data Reading : Type 0 where
  -- of a text of this form, for a crew with these places: the whole lines of the head so far, the bytes of the next, and its number
  InHead : Form → List Bool → List ℕ → List ℕ → ℕ → Reading
  -- after the lines that lead to a place: the number of the next, how many bytes were read, and those of it
  InLine : Place → ℕ → ℕ → List ℕ → Reading
  -- the script that ended with its line `e`, or the refusal, and how many bytes it took
  Ended : ScriptData → ℕ → Reading
  Stopped : Refusal → ℕ → Reading

-- neither a refusal nor a line `e` with its line feed was read
abbrev pub IsOpen : Reading → Type 0
IsOpen (InHead form places head line number) = Unit {0}
IsOpen (InLine p number used line) = Unit {0}
IsOpen (Ended script used) = ⊥
IsOpen (Stopped refusal used) = ⊥

-- how many bytes were looked at
abbrev pub bytes_of : Reading → ℕ
bytes_of (InHead form places head line number) = length head + length line
bytes_of (InLine p number used line) = used
bytes_of (Ended script used) = used
bytes_of (Stopped refusal used) = used

-- the refusal that stopped it
abbrev pub stopped_by : Reading → Option Refusal
stopped_by (InHead form places head line number) = None
stopped_by (InLine p number used line) = None
stopped_by (Ended script used) = None
stopped_by (Stopped refusal used) = Some refusal

-- the line behind the head, by what the head means
abbrev pub head_read : Form → List Bool → Result Settings ConfigFault → ℕ → ℕ → Reading
head_read form places (Ok config) number used = InLine (at_start form places config) number used []
head_read form places (Err fault) number used = Stopped (BadHead fault) used

-- the head may not have so many bytes without its end
abbrev pub head_grows : Form → List Bool → List ℕ → List ℕ → ℕ → Reading
head_grows form places head line number =
    if nat_lt (length head + length line) HEAD_TOO_LONG then InHead form places head line number else Stopped HeadSize
    (length head + length line)

-- the line feed of a line of the head
abbrev pub head_line_ends : Form → List Bool → List ℕ → List ℕ → ℕ → Reading
head_line_ends form places head line number = if bytes_eq line (codes "%%")
    then head_read form places (read_head head) (number + 1) (length head + length line + 1)
    else head_grows form places (head ++ (line ++ 10 ∷ [])) [] (number + 1)

-- the line feed of a line of this number
abbrev pub line_ends : Place → Judged → ℕ → ℕ → Reading
line_ends p (More p') number used = InLine p' (number + 1) used []
line_ends p Done number used = Ended p.script used
line_ends p (Refused reason) number used = Stopped (Line number reason) used

-- a line has no more bytes than these
abbrev pub line_grows : Place → ℕ → ℕ → List ℕ → ℕ → Reading
line_grows p number used line b =
    if nat_lt (length line) LONGEST_LINE then InLine p number (used + 1) (line ++ b ∷ []) else Stopped (Line number LineTooLong) (used + 1)

-- one more byte
abbrev pub take_byte : Reading → ℕ → Reading
take_byte (InHead form places head line number) b =
    if b == 10 then head_line_ends form places head line number else head_grows form places head (line ++ b ∷ []) number
take_byte (InLine p number used line) b =
    if b == 10 then line_ends p (judge_line p number line) number (used + 1) else line_grows p number used line b
take_byte (Ended script used) b = Ended script used
take_byte (Stopped refusal used) b = Stopped refusal used

abbrev pub take_bytes : Reading → List ℕ → Reading
take_bytes r [] = r
take_bytes r (b ∷ bs) = take_bytes (take_byte r b) bs

-- a text of this form, for a crew with these places, read so far
abbrev pub reading : Form → List Bool → List ℕ → Reading
reading form places text = take_bytes (InHead form places [] [] 1) text

-- what a text comes to: a script and how many bytes it took, or its first refusal and how many bytes decide it
pub data Meaning : Type 0 where
  Script : ScriptData → ℕ → Meaning
  No : Refusal → ℕ → Meaning

-- the last line has no line feed: it counts only where it is `e`
abbrev pub last_line : Place → Judged → ℕ → ℕ → Meaning
last_line p (More p') number used = No NoEnd used
last_line p Done number used = Script p.script used
last_line p (Refused reason) number used = No (Line number reason) used

-- the text ends here
abbrev pub finished : Reading → Meaning
finished (InHead form places head line number) = No NoEnd (length head + length line)
finished (InLine p number used line) =
    if bytes_eq line (codes "e") then last_line p (judge_line p number line) number used else No NoEnd used
finished (Ended script used) = Script script used
finished (Stopped refusal used) = No refusal used

abbrev pub meaning : Form → List Bool → List ℕ → Meaning
meaning form places text = finished (reading form places text)

-- how many bytes it took
abbrev pub count_of : Meaning → ℕ
count_of (Script script used) = used
count_of (No refusal used) = used

-- without the count of bytes
abbrev pub outcome : Meaning → Result ScriptData Refusal
outcome (Script script used) = Ok script
outcome (No refusal used) = Err refusal

-- the text means this script, for a crew with these places
abbrev pub MeansScript : Form → List Bool → List ℕ → ScriptData → Type 0
MeansScript form places text script = outcome (meaning form places text) ≡ Ok script

-- the text has no script, and this is its first refusal
abbrev pub IsRefused : Form → List Bool → List ℕ → Refusal → Type 0
IsRefused form places text refusal = outcome (meaning form places text) ≡ Err refusal
