-- What the start of a reading has, and each line keeps, stands behind each script that was read.
use Rattle.std.proofs.Common.{◌≡◌, ◌+◌, ◌++◌, ◌==◌, Bool, true, List, [], ◌∷◌, ℕ, length, refl, sym, subst, codes, nat_lt, Option, Some, None, Ok, Err, Result}
use Rattle.std.specs.Str.{bytes_eq}
use Rattle.lift_base.specs.declared.limits.TheConstants.{HEAD_TOO_LONG, LONGEST_LINE, MOST_LINES}
use Rattle.lift_base.specs.declared.forms.Form.{Form}
use Rattle.lift_config.specs.declared.ConfigFault.{ConfigFault}
use Rattle.lift_config.specs.Head.{read_head}
use Rattle.lift_model.specs.Records.{Settings}
use Rattle.script_model.specs.declared.Line.{Line}
use Rattle.script_model.specs.declared.Line.TheVariants as line
use Rattle.script_model.specs.declared.Entry.{Entry}
use Rattle.script_model.specs.declared.refusals.LineRefusal.TheVariants.{BadLine, TooManyLines, LineTooLong}
use Rattle.script_model.specs.Lines.{line_of}
use Rattle.script_model.specs.Judging.{ScriptData, Place, Judged, More, Done, Refused, at_start, at_entry, at_tick, has_entry, of_form, judged, judge_line}
use Rattle.script_model.specs.Meaning.{Reading, InHead, InLine, Ended, Stopped, head_read, head_grows, head_line_ends, line_grows, line_ends, line_grows, take_byte, take_bytes, reading, finished, last_line, Meaning, Script, No, meaning, outcome, MeansScript}
use Rattle.script_model.specs.declared.refusals.Refusal.TheVariants.{HeadSize, NoEnd}
use Rattle.script_model.specs.declared.refusals.Refusal.TheVariants as refusal
use Rattle.script_model.proofs.Choices.{either, either_by}

-- where a line leads to a place, it holds there
abbrev pub Leads : (Place → Type 0) → Judged → Type 0
Leads P (More p) = P p
Leads P Done = Unit {0}
Leads P (Refused reason) = Unit {0}

-- the start has it, and each line that the form has and that is taken keeps it
pub record IsKept (form : Form) (places : List Bool) (P : Place → Type 0) : Type 0 where
  pub start : (head : List ℕ) (c : Settings) → read_head head ≡ Ok c → P (at_start form places c)
  pub entry : (p : Place) (number : ℕ) (text : List ℕ) (entry : Entry) → P p → line_of text ≡ Some (line.Entry entry)
      → has_entry p.form entry ≡ true → Leads P (at_entry p number entry)
  pub ticks : (p : Place) (number : ℕ) (text : List ℕ) (n : ℕ) → P p → line_of text ≡ Some (line.Tick n) → Leads P (at_tick p number n)

-- it holds of a place with this script
abbrev pub StandsBehind : (Place → Type 0) → ScriptData → Type 0
StandsBehind P s = (p : Place) × P p × (p.script ≡ s)

-- ---- a line

some_leads : (form : Form) (places : List Bool) (P : Place → Type 0) (kept : IsKept form places P) (p : Place) (number : ℕ)
    (text : List ℕ) (l : Line) → P p
    → line_of text ≡ Some l → Leads P (judged p number (Some l))
some_leads form places P kept p number text (line.Entry entry) has is =
    either (Leads P) (nat_lt p.others MOST_LINES) (of_form p entry (at_entry p number entry)) (Refused TooManyLines)
    (either_by (Leads P) (has_entry p.form entry) (at_entry p number entry) (Refused BadLine) (kept.entry p number text entry has is)
    (λ has_not. tt)) tt
some_leads form places P kept p number text (line.Tick n) has is = kept.ticks p number text n has is
some_leads form places P kept p number text line.End has is = either (Leads P) p.waiting (Refused BadLine) Done tt tt

line_leads : (form : Form) (places : List Bool) (P : Place → Type 0) (kept : IsKept form places P) (p : Place) (number : ℕ)
    (text : List ℕ) (l : Option Line)
    → line_of text ≡ l → P p
    → Leads P (judged p number l)
line_leads form places P kept p number text None is has = either (Leads P) (nat_lt p.others MOST_LINES) (Refused BadLine)
    (Refused TooManyLines) tt tt
line_leads form places P kept p number text (Some l) is has = some_leads form places P kept p number text l has is

pub judge_leads : (form : Form) (places : List Bool) (P : Place → Type 0) (kept : IsKept form places P) (p : Place) (number : ℕ)
    (text : List ℕ) → P p
    → Leads P (judge_line p number text)
unfolding judge_line
judge_leads form places P kept p number text has = line_leads form places P kept p number text (line_of text) refl has

-- ---- a reading

abbrev KeepsOn : Form → List Bool → (Place → Type 0) → Reading → Type 0
KeepsOn form places P (InHead f places' head line number) = (f ≡ form) × (places' ≡ places)
KeepsOn form places P (InLine p number used line) = P p
KeepsOn form places P (Ended s used) = StandsBehind P s
KeepsOn form places P (Stopped refusal used) = Unit {0}

head_keeps : (form : Form) (places : List Bool) (P : Place → Type 0) (kept : IsKept form places P) (head : List ℕ)
    (config : Result Settings ConfigFault)
    (number used : ℕ) → read_head head ≡ config
    → KeepsOn form places P (head_read form places config number used)
head_keeps form places P kept head (Ok c) number used is = kept.start head c is
head_keeps form places P kept head (Err fault) number used is = tt

grown_keeps : (form : Form) (places : List Bool) (P : Place → Type 0) (head line : List ℕ) (number : ℕ)
    → KeepsOn form places P (head_grows form places head line number)
grown_keeps form places P head line number =
    either (KeepsOn form places P) (nat_lt (length head + length line) HEAD_TOO_LONG) (InHead form places head line number)
    (Stopped HeadSize (length head + length line)) (refl, refl) tt

mark_keeps : (form : Form) (places : List Bool) (P : Place → Type 0) (kept : IsKept form places P) (head line : List ℕ) (number : ℕ)
    → KeepsOn form places P (head_line_ends form places head line number)
mark_keeps form places P kept head line number =
    either (KeepsOn form places P) (bytes_eq line (codes "%%")) (head_read form places (read_head head) (number + 1)
    (length head + length line + 1))
    (head_grows form places (head ++ (line ++ 10 ∷ [])) [] (number + 1))
    (head_keeps form places P kept head (read_head head) (number + 1) (length head + length line + 1) refl)
    (grown_keeps form places P (head ++ (line ++ 10 ∷ [])) [] (number + 1))

in_head_keeps : (form : Form) (places : List Bool) (P : Place → Type 0) (kept : IsKept form places P) (head line : List ℕ) (number b : ℕ)
    → KeepsOn form places P (take_byte (InHead form places head line number) b)
in_head_keeps form places P kept head line number b =
    either (KeepsOn form places P) (b == 10) (head_line_ends form places head line number) (head_grows form places head
    (line ++ b ∷ []) number)
    (mark_keeps form places P kept head line number) (grown_keeps form places P head (line ++ b ∷ []) number)

ends_keep : (form : Form) (places : List Bool) (P : Place → Type 0) (p : Place) (j : Judged) (number used : ℕ) → P p → Leads P j
    → KeepsOn form places P (line_ends p j number used)
ends_keep form places P p (More p') number used has leads = leads
ends_keep form places P p Done number used has leads = (p, has, refl)
ends_keep form places P p (Refused reason) number used has leads = tt

byte_keeps : (form : Form) (places : List Bool) (P : Place → Type 0) (kept : IsKept form places P) (r : Reading) (b : ℕ)
    → KeepsOn form places P r
    → KeepsOn form places P (take_byte r b)
byte_keeps form places P kept (InHead f places' head line number) b is =
    subst (λ (x : Form). KeepsOn form places P (take_byte (InHead x places' head line number) b)) (sym is.0)
    (subst (λ (x : List Bool). KeepsOn form places P (take_byte (InHead form x head line number) b)) (sym is.1)
    (in_head_keeps form places P kept head line number b))
byte_keeps form places P kept (InLine p number used line) b has =
    either (KeepsOn form places P) (b == 10) (line_ends p (judge_line p number line) number (used + 1)) (line_grows p number used line b)
    (ends_keep form places P p (judge_line p number line) number (used + 1) has (judge_leads form places P kept p number line has))
    (either (KeepsOn form places P) (nat_lt (length line) LONGEST_LINE) (InLine p number (used + 1) (line ++ b ∷ []))
    (Stopped (refusal.Line number LineTooLong) (used + 1)) has tt)
byte_keeps form places P kept (Ended s used) b stands = stands
byte_keeps form places P kept (Stopped refusal used) b is = tt

bytes_keep : (form : Form) (places : List Bool) (P : Place → Type 0) (kept : IsKept form places P) (r : Reading) (text : List ℕ)
    → KeepsOn form places P r
    → KeepsOn form places P (take_bytes r text)
bytes_keep form places P kept r [] is = is
bytes_keep form places P kept r (b ∷ text) is = bytes_keep form places P kept (take_byte r b) text (byte_keeps form places P kept r b is)

-- ---- a meaning

abbrev KeepsLast : (Place → Type 0) → Meaning → Type 0
KeepsLast P (Script s used) = StandsBehind P s
KeepsLast P (No refusal used) = Unit {0}

last_keeps : (P : Place → Type 0) (p : Place) (j : Judged) (number used : ℕ) → P p → KeepsLast P (last_line p j number used)
last_keeps P p (More p') number used has = tt
last_keeps P p Done number used has = (p, has, refl)
last_keeps P p (Refused reason) number used has = tt

finished_keeps : (form : Form) (places : List Bool) (P : Place → Type 0) (r : Reading) → KeepsOn form places P r → KeepsLast P (finished r)
finished_keeps form places P (InHead f places' head line number) is = tt
finished_keeps form places P (InLine p number used line) has =
    either (KeepsLast P) (bytes_eq line (codes "e")) (last_line p (judge_line p number line) number used) (No NoEnd used)
    (last_keeps P p (judge_line p number line) number used has) tt
finished_keeps form places P (Ended s used) stands = stands
finished_keeps form places P (Stopped refusal used) is = tt

outcome_keeps : (P : Place → Type 0) (m : Meaning) (s : ScriptData) → outcome m ≡ Ok s → KeepsLast P m → StandsBehind P s
outcome_keeps P (Script s' used) s is stands = let same : s' ≡ s = cc in subst (StandsBehind P) same stands
outcome_keeps P (No refusal used) s is keeps = absurd cc

pub stands_behind : (form : Form) (places : List Bool) (P : Place
    → Type 0) (kept : IsKept form places P) (text : List ℕ) (s : ScriptData) → MeansScript form places text s
    → StandsBehind P s
stands_behind form places P kept text s means =
    outcome_keeps P (meaning form places text) s means
    (finished_keeps form places P (reading form places text) (bytes_keep form places P kept (InHead form places [] [] 1) text (refl, refl)))
