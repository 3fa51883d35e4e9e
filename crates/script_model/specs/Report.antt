-- The report of a path: a line for each change of power or alarm, and a last line that counts.
use Rattle.std.specs.Prelude.{ℕ, ◌+◌, ◌-◌, ◌==◌, nat_lt, Bool, false, not, ◌||◌, if◌then◌else◌, List, [], ◌∷◌, ◌++◌, length, codes, decimal, get_or}
use Rattle.std.specs.Bool.{beq}
use Rattle.std.specs.List.{flat_map}
use Rattle.std.specs.declared.option.Option.{Option}
use Rattle.std.specs.declared.option.Option.TheVariants.{None, Some}
use Rattle.lift_base.specs.declared.Kind.{Kind}
use Rattle.lift_base.specs.declared.Kind.TheVariants.{Off, Full, Up, Down}
use Rattle.script_model.specs.Changes.{ChangeData}
use Rattle.chain_table.specs.Names.{source_names, wire_names, contact_names}
use Rattle.core_model.specs.Settling.{Out, Settled}
use Rattle.core_model.specs.Words.{is_off, is_same, stamp_of, reason_of, detail_of}
use Rattle.lift_base.specs.declared.contacts.TheConstants.{CONTACT_FAULT}
use Rattle.core_model.specs.declared.numbers.TheConstants.{COMMAND_AGE, COMPARE, LOCKED, CONTACTOR_CLOSED, CHANGEOVER, CONTACTOR_OPEN}
use Rattle.script_model.specs.declared.reasons.TheConstants.{STALE, FORCED, KINDS_DIFFER, UNKNOWN}

abbrev pub kind_text : Kind → List ℕ
kind_text Off = codes "off"
kind_text Full = codes "full"
kind_text Up = codes "up"
kind_text Down = codes "down"

-- ---- why power is off

-- a code, and its detail
pub record Reason : Type 0 where
  pub code : ℕ
  pub detail : ℕ

abbrev pub bare : ℕ → Reason
bare code = record { code = code; detail = 0 }

-- a command word has no reason above the last of a supervisor's
abbrev pub reason_in : ℕ → Reason
reason_in word = if nat_lt CONTACTOR_OPEN (reason_of word) then bare UNKNOWN else record { code = reason_of word; detail = detail_of word }

abbrev pub is_stale : ℕ → ℕ → Bool
is_stale word t = nat_lt t (stamp_of word) || nat_lt (stamp_of word + COMMAND_AGE) t

-- forced, stale, and else the reason of the side's command
abbrev pub reason_of_out : Out → ℕ → Reason
reason_of_out out t = if out.forced then bare FORCED else if is_stale out.word t then bare STALE else reason_in out.word

-- that of the first side whose output is off
abbrev pub reason_at : ℕ → Settled → Reason
reason_at t s = if is_off s.a.kind then reason_of_out s.a t else if is_off s.b.kind then reason_of_out s.b t else bare KINDS_DIFFER

-- ---- the changes

-- at tick t; power that is on has no reason
abbrev pub change_at : ℕ → Settled → ChangeData
change_at t s =
    let reason = if is_off s.power then reason_at t s else bare 0 in
    record { tick = t; power = s.power; alarm = s.alarm; reason = reason.code; detail = reason.detail }

-- power and alarm differ from those before
abbrev pub is_change : Kind → Bool → Kind → Bool → Bool
is_change power alarm power' alarm' = not (is_same power' power) || not (beq alarm' alarm)

-- from tick t on, where power and alarm were these before it
abbrev pub changes_from : Kind → Bool → ℕ → List Settled → List ChangeData
changes_from power alarm t [] = []
changes_from power alarm t (s ∷ path) = (if is_change power alarm s.power s.alarm then change_at t s ∷ [] else [])
    ++ changes_from s.power s.alarm (t + 1) path

abbrev pub changes_of : List Settled → List ChangeData
changes_of path = changes_from Off false 1 path

-- ---- the texts

-- the name, where there is one, between what stands before and behind it
abbrev pub around : Option (List ℕ) → List ℕ → List ℕ → List ℕ
around None before behind = codes "unknown own"
around (Some name) before behind = before ++ name ++ behind

abbrev pub name_at : List (List ℕ) → ℕ → Option (List ℕ)
name_at names i = if nat_lt i (length names) then Some (get_or names i []) else None

-- a source, by its number from 1
abbrev pub source_named : ℕ → Option (List ℕ)
source_named j = if j == 0 then None else name_at source_names (j - 1)

-- a wire, or the standing contact fault
abbrev pub wire_or_fault : ℕ → Option (List ℕ)
wire_or_fault i = if i == CONTACT_FAULT then Some (codes "fault") else name_at wire_names i

-- one of two, from 1
abbrev pub one_of : List ℕ → List ℕ → ℕ → Option (List ℕ)
one_of first second i = if i == 1 then Some first else if i == 2 then Some second else None

-- the reasons that have no detail: clauses, then those of a supervisor, then those of the report
abbrev pub bare_text : ℕ → List ℕ
bare_text code =
    if code == 0 then codes "none own"
    else if code == 3 then codes "K3 both_bypasses 5.12.1.8"
    else if code == 5 then codes "K5 pit_latch 5.12.1.5"
    else if code == 6 then codes "K6 doors_faulty 5.12.1.9"
    else if code == 8 then codes "K8 monitor 5.12.1.8"
    else if code == 9 then codes "K9 buttons 5.12.1.5"
    else if code == 10 then codes "K10 buttons 5.12.1.6"
    else if code == 11 then codes "K11 request own"
    else if code == COMPARE then codes "compare own"
    else if code == LOCKED then codes "locked own"
    else if code == CONTACTOR_CLOSED then codes "contactor_closed own"
    else if code == CHANGEOVER then codes "changeover own"
    else if code == CONTACTOR_OPEN then codes "contactor_open own"
    else if code == STALE then codes "stale own"
    else if code == FORCED then codes "forced own"
    else if code == KINDS_DIFFER then codes "kinds_differ own"
    else codes "unknown own"

-- the clauses with a detail, and else the text of the code alone
unfoldable pub reason_text : ℕ → ℕ → List ℕ
reason_text code detail =
    if code == 1 then around (source_named detail) (codes "K1 ") (codes " EN 50325-5")
    else if code == 2 then around (wire_or_fault detail) (codes "K2 ") (codes " own")
    else if code == 4 then around (one_of (codes "bypass_car") (codes "bypass_landing") detail) (codes "K4 ") (codes " 5.12.1.8")
    else if code == 7 then around (name_at contact_names detail) (codes "K7 ") (codes " 5.11.2")
    else if code == 12 then around (one_of (codes "up_limit") (codes "down_limit") detail) (codes "K12 ") (codes " 5.12.1.5")
    else bare_text code

abbrev pub alarm_text : Bool → List ℕ
alarm_text alarm = if alarm then codes " alarm" else []

-- the line of a change
unfoldable pub change_text : ChangeData → List ℕ
change_text c =
    if is_off c.power then decimal c.tick ++ codes " off " ++ reason_text c.reason c.detail ++ codes "\n"
    else decimal c.tick ++ codes " " ++ kind_text c.power ++ alarm_text c.alarm ++ codes "\n"

-- how many ticks have power
abbrev pub count_on : List Settled → ℕ
count_on [] = 0
count_on (s ∷ path) = (if is_off s.power then 0 else 1) + count_on path

-- the last line of a report: how many ticks, how many of them with power, and how many changes
unfoldable pub counts_text : ℕ → ℕ → ℕ → List ℕ
counts_text ticks on changes = codes "ticks " ++ decimal ticks ++ codes " on " ++ decimal on ++ codes " changes " ++ decimal changes
    ++ codes "\n"

-- the last line of a path with so many changes
unfoldable pub totals_text : List Settled → ℕ → List ℕ
totals_text path changes = counts_text (length path) (count_on path) changes

-- the lines of these changes, and the last line, which counts all changes of the path
abbrev pub changes_text : List ChangeData → List Settled → List ℕ
changes_text changes path = flat_map change_text changes ++ totals_text path (length (changes_of path))

unfoldable pub report_text : List Settled → List ℕ
report_text path = changes_text (changes_of path) path
