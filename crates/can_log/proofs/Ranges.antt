-- What every log keeps, whatever its lines were: how it is taken, no tick past the most, and the ranges of its frames.
use Rattle.std.proofs.Common.{ℕ, ◌≡◌, ◌≤◌, ◌+◌, ◌==◌, nat_lt, Bool, true, false, List, [], ◌∷◌, length, if◌then◌else◌, refl, subst, arith, Option, Some, None, option_and_then, Result, Ok, Err, IfSome}
use Rattle.std.specs.List.{AllByRecursion, slice_split}
use Rattle.lift_base.specs.declared.limits.TheConstants.{MOST_FRAMES}
use Rattle.lift_model.specs.Records.{FrameData}
use Rattle.can_frame.specs.Frames.{IsFrameData}
use Rattle.can_frame.specs.Spelling.{frame_of}
use Rattle.script_model.proofs.GeneratedRules.{all_push}
use Rattle.script_laws.proofs.LineForms.{frame_inv}
use Rattle.script_laws.proofs.Walks.{under, not_under}
use Rattle.can_log.specs.declared.lines.Stamped.{Stamped}
use Rattle.can_log.specs.declared.log.Taking.{Taking}
use Rattle.can_log.specs.declared.log.Taken.{Taken}
use Rattle.can_log.specs.declared.log.Refusal.{Refusal}
use Rattle.can_log.specs.declared.log.Refusal.TheVariants.{TimeGoesBack, TooManyTicks, TooManyFrames}
use Rattle.can_log.specs.Lines.{bare, frame_or, is_foreign, kind_of, parts_of, stamped_of}
use Rattle.can_log.specs.Taken.{LogData, nothing_of, tick_at, first_or, frames_in, is_ours, with_other, with_frame, come_to, at_tick, at_time, at_stamped, at_line, at_lines, log_of}
use Rattle.can_log.proofs.Logs.{few_push}
use Rattle.can_log.proofs.OneLine.{after}

-- ---- a line

abbrev FitsFrame : Option FrameData → Type 0
FitsFrame frame = IfSome frame IsFrameData

abbrev FitsKind : Option (Option FrameData) → Type 0
FitsKind kind = IfSome kind FitsFrame

abbrev FitsStamped : Option Stamped → Type 0
FitsStamped stamped = IfSome stamped (λ s. FitsFrame s.frame)

kind_by : (text : List ℕ) (frame : Option FrameData) (foreign : Bool) → frame_of text ≡ frame → FitsKind (frame_or frame foreign)
kind_by text (Some f) foreign is = (frame_inv text f is).1
kind_by text None true is = tt
kind_by text None false is = tt

kind_fits : (text : List ℕ) → FitsKind (kind_of text)
kind_fits text = kind_by text (frame_of text) (is_foreign text) refl

stamped_by : (time : ℕ) (kind : Option (Option FrameData)) → FitsKind kind
    → FitsStamped (option_and_then (λ frame. Some (record { time = time; frame = frame })) kind)
stamped_by time None fits = tt
stamped_by time (Some frame) fits = fits

parts_by : (parts : Option (ℕ × (List ℕ × List ℕ)))
    → FitsStamped (option_and_then (λ p. option_and_then (λ frame. Some (record { time = p.0; frame = frame }))
    (kind_of (bare p.1.1))) parts)
parts_by None = tt
parts_by (Some p) = stamped_by p.0 (kind_of (bare p.1.1)) (kind_fits (bare p.1.1))

stamped_fits : (line : List ℕ) → FitsStamped (stamped_of line)
stamped_fits line = parts_by (parts_of line)

-- ---- a log

pub record IsRanged (taking : Taking) (log : LogData) : Type 0 where
  pub taking_is : log.taking ≡ taking
  pub most : log.ticks ≤ taking.most
  pub few : (n : ℕ) → length (frames_in n log.taken) ≤ MOST_FRAMES
  pub frames : AllByRecursion (λ t. IsFrameData t.frame) log.taken

abbrev Ranged : {E : Type 0} → Taking → Result LogData E → Type 0
Ranged taking (Ok log) = IsRanged taking log
Ranged taking (Err e) = Unit {0}

with_other_fits : (taking : Taking) (log : LogData) → IsRanged taking log → IsRanged taking (with_other log)
with_other_fits taking log is = record { taking_is = is.taking_is; most = is.most; few = is.few; frames = is.frames }

push_by : (taking : Taking) (log : LogData) (n : ℕ) (f : FrameData) (test : Bool)
    → nat_lt (length (frames_in n log.taken)) MOST_FRAMES ≡ test → IsRanged taking log → IsFrameData f
    → Ranged taking (if test then Ok (with_frame log n f) else Err TooManyFrames)
push_by taking log n f true room is fits = record {
  taking_is = is.taking_is;
  most = is.most;
  few = few_push n f log.taken is.few (under (length (frames_in n log.taken)) MOST_FRAMES room);
  frames = all_push (λ (t : Taken). IsFrameData t.frame) log.taken (record { tick = n; frame = f }) is.frames fits;
}
push_by taking log n f false room is fits = tt

ours_by : (taking : Taking) (log : LogData) (n : ℕ) (f : FrameData) (test : Bool) → IsRanged taking log → IsFrameData f
    → Ranged taking (if test
    then (if nat_lt (length (frames_in n log.taken)) MOST_FRAMES then Ok (with_frame log n f) else Err TooManyFrames)
    else Ok (with_other log))
ours_by taking log n f true is fits = push_by taking log n f (nat_lt (length (frames_in n log.taken)) MOST_FRAMES) refl is fits
ours_by taking log n f false is fits = with_other_fits taking log is

tick_fits : (taking : Taking) (log : LogData) (n : ℕ) (frame : Option FrameData) → IsRanged taking log → FitsFrame frame
    → Ranged taking (at_tick log n frame)
tick_fits taking log n None is fits = with_other_fits taking log is
tick_fits taking log n (Some f) is fits = ours_by taking log n f (is_ours log.taking.ids f.id) is fits

time_by : (taking : Taking) (log : LogData) (first time : ℕ) (frame : Option FrameData) (test : Bool)
    → nat_lt log.taking.most (tick_at first log.taking.tick time) ≡ test → IsRanged taking log → FitsFrame frame
    → Ranged taking (if test then Err TooManyTicks else at_tick (come_to log first time) (tick_at first log.taking.tick time) frame)
time_by taking log first time frame true past is fits = tt
time_by taking log first time frame false past is fits =
    let within = not_under log.taking.most (tick_at first log.taking.tick time) past in
    let most : tick_at first log.taking.tick time ≤ taking.most =
    subst (λ (t : Taking). tick_at first log.taking.tick time ≤ t.most) is.taking_is within in
    tick_fits taking (come_to log first time) (tick_at first log.taking.tick time) frame
    (record { taking_is = is.taking_is; most = most; few = is.few; frames = is.frames }) fits

goes_by : (taking : Taking) (log : LogData) (s : Stamped) (test : Bool) → IsRanged taking log → FitsFrame s.frame
    → Ranged taking (if test then Err TimeGoesBack else at_time log (first_or s.time log.first) s.time s.frame)
goes_by taking log s true is fits = tt
goes_by taking log s false is fits =
    let first = first_or s.time log.first in
    time_by taking log first s.time s.frame (nat_lt log.taking.most (tick_at first log.taking.tick s.time)) refl is fits

stamped_keeps : (taking : Taking) (log : LogData) (stamped : Option Stamped) → IsRanged taking log → FitsStamped stamped
    → Ranged taking (at_stamped log stamped)
stamped_keeps taking log None is fits = tt
stamped_keeps taking log (Some s) is fits = goes_by taking log s (nat_lt s.time log.last) is fits

empty_by : (taking : Taking) (log : LogData) (line : List ℕ) (test : Bool) → IsRanged taking log
    → Ranged taking (if test then Ok log else at_stamped log (stamped_of line))
empty_by taking log line true is = is
empty_by taking log line false is = stamped_keeps taking log (stamped_of line) is (stamped_fits line)

line_keeps : (taking : Taking) (log : LogData) (line : List ℕ) → IsRanged taking log → Ranged taking (at_line log line)
line_keeps taking log line is = empty_by taking log line (length line == 0) is

after_keeps : (taking : Taking) (number : ℕ) (lines : List (List ℕ)) (came : Result LogData Refusal) → Ranged taking came
    → ((log : LogData) → IsRanged taking log → Ranged taking (at_lines log (number + 1) lines))
    → Ranged taking (after number lines came)
after_keeps taking number lines (Ok log) is each = each log is
after_keeps taking number lines (Err why) is each = tt

lines_keep : (taking : Taking) (lines : List (List ℕ)) (number : ℕ) (log : LogData) → IsRanged taking log
    → Ranged taking (at_lines log number lines)
lines_keep taking [] number log is = is
lines_keep taking (line ∷ lines) number log is =
    after_keeps taking number lines (at_line log line) (line_keeps taking log line is) (lines_keep taking lines (number + 1))

pub log_is_ranged : (taking : Taking) (text : List ℕ) (log : LogData) → log_of taking text ≡ Ok log → IsRanged taking log
unfolding log_of
log_is_ranged taking text log is =
    subst (Ranged taking) is (lines_keep taking (slice_split (λ b. b == 10) text) 1 (nothing_of taking)
    (record { taking_is = refl; most = omega arith; few = λ n. omega arith; frames = tt }))
