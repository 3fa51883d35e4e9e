-- What a log comes to, line by line: the frames that are taken, each with the tick of its time, or the first line that is refused (own).
use Rattle.std.specs.Prelude.{ℕ, ◌+◌, ◌-◌, ◌/◌, ◌==◌, ◌||◌, nat_lt, Bool, false, List, [], ◌∷◌, ◌++◌, length, map, filter, if◌then◌else◌, Option, Some, None, Result, Ok, Err}
use Rattle.std.specs.List.{list_any, slice_split}
use Rattle.lift_base.specs.declared.limits.TheConstants.{MOST_FRAMES}
use Rattle.lift_io.specs.Memory.{next}
use Rattle.lift_model.specs.Records.{FrameData}
use Rattle.can_log.specs.declared.lines.Stamped.{Stamped}
use Rattle.can_log.specs.declared.log.Taking.{Taking}
use Rattle.can_log.specs.declared.log.Taken.{Taken}
use Rattle.can_log.specs.declared.log.Refusal.{Refusal}
use Rattle.can_log.specs.declared.log.Refusal.TheVariants.{NoLogLine, TimeGoesBack, TooManyTicks, TooManyFrames}
use Rattle.can_log.specs.Lines.{stamped_of}

-- how far a log has come: how it is taken, the time of its first frame and of its last, the tick of the last, the frames that were
-- taken, in their order, and how many others there were
pub record LogData : Type 0 where
  pub taking : Taking
  pub first : Option ℕ
  pub last : ℕ
  pub ticks : ℕ
  pub taken : List Taken
  pub others : ℕ

abbrev pub nothing_of : Taking → LogData
nothing_of taking = record { taking = taking; first = None; last = 0; ticks = 0; taken = []; others = 0 }

-- the tick of a time: the first frame stands in tick 1, and each tick lasts so many microseconds
abbrev pub tick_at : ℕ → ℕ → ℕ → ℕ
tick_at first tick time = (time - first) / tick + 1

abbrev pub first_or : ℕ → Option ℕ → ℕ
first_or time None = time
first_or time (Some first) = first

-- the frames that were taken of this tick
abbrev pub frames_in : ℕ → List Taken → List FrameData
frames_in n taken = map (λ t. t.frame) (filter (λ t. t.tick == n) taken)

-- the identifier is that of a source, or the one behind it
abbrev pub is_of : ℕ → Option ℕ → Bool
is_of id None = false
is_of id (Some plain) = (id == plain) || (id == plain + 1)

abbrev pub is_ours : List (Option ℕ) → ℕ → Bool
is_ours ids id = list_any (is_of id) ids

-- ---- a line

abbrev pub with_other : LogData → LogData
with_other log = record log { others = next log.others }

abbrev pub with_frame : LogData → ℕ → FrameData → LogData
with_frame log n f = record log { taken = log.taken ++ (record { tick = n; frame = f }) ∷ [] }

-- a frame of this tick
abbrev pub at_tick : LogData → ℕ → Option FrameData → Result LogData Refusal
at_tick log n None = Ok (with_other log)
at_tick log n (Some f) = if is_ours log.taking.ids f.id
    then (if nat_lt (length (frames_in n log.taken)) MOST_FRAMES then Ok (with_frame log n f) else Err TooManyFrames)
    else Ok (with_other log)

-- a frame of this time
abbrev pub come_to : LogData → ℕ → ℕ → LogData
come_to log first time = record log { first = Some first; last = time; ticks = tick_at first log.taking.tick time }

abbrev pub at_time : LogData → ℕ → ℕ → Option FrameData → Result LogData Refusal
at_time log first time frame =
    let n = tick_at first log.taking.tick time in
    if nat_lt log.taking.most n then Err TooManyTicks else at_tick (come_to log first time) n frame

abbrev pub at_stamped : LogData → Option Stamped → Result LogData Refusal
at_stamped log None = Err NoLogLine
at_stamped log (Some s) = if nat_lt s.time log.last then Err TimeGoesBack else at_time log (first_or s.time log.first) s.time s.frame

-- an empty line says nothing
abbrev pub at_line : LogData → List ℕ → Result LogData Refusal
at_line log line = if length line == 0 then Ok log else at_stamped log (stamped_of line)

-- ---- the lines

-- a log, or the number of the first line that is refused, and why
abbrev pub at_lines : LogData → ℕ → List (List ℕ) → Result LogData (ℕ × Refusal)
at_lines log number [] = Ok log
at_lines log number (line ∷ lines) = elim (at_line log line) [ Ok log' ↦ at_lines log' (number + 1) lines | Err why ↦ Err (number, why) ]

-- what a text comes to: its lines are parted by line feeds
unfoldable pub log_of : Taking → List ℕ → Result LogData (ℕ × Refusal)
log_of taking text = at_lines (nothing_of taking) 1 (slice_split (λ b. b == 10) text)
