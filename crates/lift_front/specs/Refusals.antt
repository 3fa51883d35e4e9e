-- Why a run is refused: a row for each refusal, with its status and its text. All own.
use Rattle.std.specs.Prelude.{ℕ, ◌≡◌, ◌⊎◌, List, ◌++◌, codes, decimal, Option, None, Some}
use Rattle.std.specs.Io.KnownBytes.{Appends}
use Rattle.lift_config.specs.declared.ConfigFault.{ConfigFault}
use Rattle.lift_config.specs.declared.ConfigFault.TheVariants as head
use Rattle.lift_config.specs.Head.{key_name}
use Rattle.lift_io.specs.Puts.{AppendsFront}
use Rattle.script_model.specs.declared.refusals.LineRefusal.{LineRefusal}
use Rattle.script_model.specs.declared.refusals.LineRefusal.TheVariants.{BadLine, TooManyTicks, TooManyFrames, TooManyLines, LineTooLong}
use Rattle.script_model.specs.declared.refusals.Refusal.{Refusal}
use Rattle.script_model.specs.declared.refusals.Refusal.TheVariants.{BadHead, HeadSize, Line, NoEnd}
use Rattle.lift_front.specs.Calls.{Call, IsCalm, HasFailed}
use Rattle.lift_front.specs.declared.ending.Ending.{Ending}
use Rattle.lift_front.specs.declared.ending.Ending.TheVariants as ending
use Rattle.lift_front.specs.declared.fault.Fault.{Fault}
use Rattle.lift_front.specs.declared.fault.Fault.TheVariants as fault

-- it is that of this refusal of a text, or, where there is none, want of memory
abbrev pub IsFaultOf : Fault → Option Refusal → Type 0
IsFaultOf fault.Memory None = Unit {0}
IsFaultOf (fault.Text f) (Some refusal) = f ≡ refusal
IsFaultOf f o = ⊥

-- what a head fails at: a key, or the head as a whole
abbrev pub head_fault_name : ConfigFault → List ℕ
head_fault_name head.NotToml = codes "toml"
head_fault_name (head.Missing key) = key_name key
head_fault_name (head.BadValue key) = key_name key
head_fault_name head.Extra = codes "extra"
head_fault_name head.NoMemory = codes "memory"

-- the status that the program ends with, and the text that it writes
pub record Notice : Type 0 where
  pub status : ℕ
  pub text : List ℕ

-- one that names a line, or a slot
abbrev pub at_line : ℕ → List ℕ → ℕ → Notice
at_line status name n = record { status = status; text = codes "refused: " ++ name ++ decimal n ++ codes "\n" }

abbrev pub line_notice : ℕ → LineRefusal → Notice
line_notice n BadLine = at_line 6 (codes "line ") n
line_notice n TooManyTicks = at_line 7 (codes "too_many ") n
line_notice n TooManyFrames = at_line 7 (codes "too_many ") n
line_notice n TooManyLines = at_line 7 (codes "too_many ") n
line_notice n LineTooLong = at_line 8 (codes "long_line ") n

abbrev pub text_notice : Refusal → Notice
text_notice (BadHead fault) = record { status = 5; text = codes "refused: head " ++ head_fault_name fault ++ codes "\n" }
text_notice HeadSize = record { status = 5; text = codes "refused: head size\n" }
text_notice (Line n refusal) = line_notice n refusal
text_notice NoEnd = record { status = 9; text = codes "refused: no_end\n" }

abbrev pub notice : Fault → Notice
notice fault.Memory = record { status = 1; text = codes "refused: memory\n" }
notice fault.Words = record { status = 2; text = codes "refused: words\n" }
notice fault.Read = record { status = 3; text = codes "refused: read\n" }
notice (fault.Text refusal) = text_notice refusal
notice (fault.Step n) = at_line 10 (codes "step ") n
notice fault.Cycle = record { status = 11; text = codes "refused: cycle\n" }
notice fault.Disk = record { status = 12; text = codes "refused: disk\n" }
notice (fault.Record i) = at_line 13 (codes "record ") i
notice fault.Full = record { status = 14; text = codes "refused: full\n" }

-- the status that the program ends with
abbrev pub status_of : Ending → ℕ
status_of ending.Done = 0
status_of ending.CutShort = 4
status_of (ending.Refused f) = (notice f).status
status_of (ending.Stopped f) = (notice f).status

-- the text was written, or, only where the sink failed, a front of it
abbrev pub WroteRefusal : Call → List ℕ → Type 0
WroteRefusal sink text = (IsCalm sink × Appends sink.bytes_before sink.bytes_after text)
    ⊎ (HasFailed sink × AppendsFront sink.bytes_before sink.bytes_after text)
