-- What a supervisor keeps, is told and decides. All own.
use Rattle.std.specs.Prelude.{◌≡◌, ◌⊎◌, ℕ, ◌+◌, Bool, true, false, not, ◌&&◌, ◌||◌, ◌==◌, min, if◌then◌else◌}
use Rattle.lift_base.specs.Ruling.{Ruling}
use Rattle.lift_model.specs.Enums.{Kind, Off}
use Rattle.core_model.specs.Words.{bit_of, CommandData, is_off, is_same, matches}
use Rattle.core_model.specs.declared.numbers.TheConstants.{TOO_MANY, COMPARE, LOCKED, CONTACTOR_CLOSED, CHANGEOVER, CONTACTOR_OPEN}

-- what a supervisor keeps: its last command's kind, three counts up to three, and whether it is locked
pub record Kept : Type 0 where
  pub last : Kind
  pub misses : ℕ
  pub locked : Bool
  pub on_open : ℕ
  pub off_closed : ℕ

-- what a new supervisor keeps
abbrev pub new_kept : Kept
new_kept = record { last = Off; misses = 0; locked = false; on_open = 0; off_closed = 0 }

-- what the supervisor of a side that was exchanged keeps: as a new one, but locked
abbrev pub new_locked : Kept
new_locked = record new_kept { locked = true }

-- what it is told of one round: own verdict at the stamp and the one before, the seen word, both contactors now, the reset at the stamp
pub record Told : Type 0 where
  pub stamp : ℕ
  pub own : Ruling
  pub before : Ruling
  pub seen : ℕ
  pub closed_a : Bool
  pub closed_b : Bool
  pub reset : Bool

-- one more where it holds, at most three, and else 0
abbrev pub counted : Bool → ℕ → ℕ
counted holds count = if holds then min (count + 1) TOO_MANY else 0

-- the counts are renewed first: words that did not match, contactors open while on, contactors closed while Off
abbrev pub renewed : Kept → Told → Kept
renewed s t = record s {
  misses = counted (not (matches t.stamp t.own t.before t.seen)) s.misses;
  on_open = counted (not (is_off s.last) && (not t.closed_a || not t.closed_b)) s.on_open;
  off_closed = counted (is_off s.last && (t.closed_a || t.closed_b)) s.off_closed;
}

-- a command, and what is kept after it
pub record Decision : Type 0 where
  pub command : CommandData
  pub kept : Kept

-- the command Off for this reason
abbrev pub off_for : Told → ℕ → ℕ → CommandData
off_for t reason detail = record { stamp = t.stamp; kind = Off; reason = reason; detail = detail; alarm = false }

-- the first row: locked, the reset rises, and both contactors are open
abbrev pub is_unlocking : Kept → Told → Bool
is_unlocking s t = s.locked && t.reset && not t.closed_a && not t.closed_b

-- the nine rows: the first that applies decides
abbrev pub decided : Kept → Told → Decision
decided s t =
    let r = renewed s t in
    let off = record r { last = Off } in
    if is_unlocking s t then record {
      command = off_for t LOCKED 0;
      kept = record new_kept { misses = bit_of (not (matches t.stamp t.own t.before t.seen)) };
    }
    else if s.locked then record { command = off_for t LOCKED 0; kept = off }
    else if r.misses == TOO_MANY || r.off_closed == TOO_MANY then record {
      command = off_for t LOCKED 0;
      kept = record off { locked = true };
    }
    else if is_off t.own.kind then record { command = off_for t t.own.clause t.own.detail; kept = off }
    else if not (matches t.stamp t.own t.before t.seen) then record { command = off_for t COMPARE 0; kept = off }
    else if r.on_open == TOO_MANY then record { command = off_for t CONTACTOR_OPEN 0; kept = record off { on_open = 0 } }
    else if is_off s.last && (t.closed_a || t.closed_b) then record { command = off_for t CONTACTOR_CLOSED 0; kept = off }
    else if not (is_off s.last) && not (is_same s.last t.own.kind) then record { command = off_for t CHANGEOVER 0; kept = off }
    else record { command = record (off_for t 0 0) { kind = t.own.kind; alarm = t.own.bypass }; kept = record r { last = t.own.kind } }

-- a command of the own kind: the seen word matched, the alarm is the own bypass, and no reason is told
pub record Grants (t : Told) (c : CommandData) : Type 0 where
  pub kind : c.kind ≡ t.own.kind
  pub agreed : matches t.stamp t.own t.before t.seen ≡ true
  pub alarm : c.alarm ≡ t.own.bypass
  pub no_reason : c.reason ≡ 0
  pub no_detail : c.detail ≡ 0

-- a command has the stamp that was told, and it is Off or of the own kind
pub record IsOwn (t : Told) (c : CommandData) : Type 0 where
  pub stamp : c.stamp ≡ t.stamp
  pub kind : (c.kind ≡ Off) ⊎ Grants t c
