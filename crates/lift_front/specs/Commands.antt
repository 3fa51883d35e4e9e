-- The commands of the tool.
use Rattle.std.specs.Prelude.{ℕ, ◌≤◌, ◌^◌, ◌&&◌, nat_le, nat_lt, List, [], ◌∷◌, codes, decimal, map, String, string_bytes, option_and_then, if◌then◌else◌}
use Rattle.std.specs.Str.{bytes_eq}
use Rattle.std.specs.Str.Parse.{digits_value}
use Rattle.std.specs.declared.option.Option.{Option}
use Rattle.std.specs.declared.option.Option.TheVariants.{None, Some}
use Rattle.std.specs.declared.alloc.Global.{Global}
use Rattle.event_record.specs.declared.record.TheConstants.{MOST_CHANGES}
use Rattle.lift_base.specs.declared.limits.TheConstants.{LONGEST_SPAN}
use Rattle.node_sim.specs.declared.cycles.TheConstants.{SHORTEST_CYCLE}
use Rattle.lift_front.specs.declared.command.Command.{Command}
use Rattle.lift_front.specs.declared.command.Command.TheVariants.{Replay, Rounds, Audit, Last, Load, Level, Schedule, Simulate, Store}

-- the command of this name
abbrev pub named : List ℕ → Option Command
named word =
    if bytes_eq word (codes "replay") then Some Replay
    else if bytes_eq word (codes "rounds") then Some Rounds
    else if bytes_eq word (codes "audit") then Some Audit
    else if bytes_eq word (codes "level") then Some Level
    else if bytes_eq word (codes "schedule") then Some Schedule
    else if bytes_eq word (codes "store") then Some Store
    else None

-- the number of 32 bits that this is the decimal print of: it has neither a sign nor leading zeros
abbrev pub number_in : List ℕ → Option ℕ
number_in word = let n = digits_value 10 word in if nat_lt n (2 ^ 32) && bytes_eq (decimal n) word then Some n else None

-- so many of the last changes, 1 to 1000
abbrev pub last_changes : ℕ → Option Command
last_changes n = if nat_le 1 n && nat_le n MOST_CHANGES then Some (Last n) else None

-- a simulation whose sources send once in so many ticks, 6 to 1000
abbrev pub in_cycles : ℕ → Option Command
in_cycles n = if nat_le SHORTEST_CYCLE n && nat_le n LONGEST_SPAN then Some (Simulate n) else None

-- the command of this name and this number
abbrev pub numbered : List ℕ → ℕ → Option Command
numbered word n =
    if bytes_eq word (codes "last") then last_changes n
    else if bytes_eq word (codes "load") then Some (Load n)
    else if bytes_eq word (codes "simulate") then in_cycles n
    else None

abbrev pub command_in : List (List ℕ) → Option Command
command_in (word ∷ []) = named word
command_in (word ∷ digits ∷ []) = option_and_then (numbered word) (number_in digits)
command_in _ = None

-- its number is one that it may have
abbrev pub IsInBounds : Command → Type 0
IsInBounds (Last n) = (1 ≤ n) × (n ≤ MOST_CHANGES)
IsInBounds (Simulate n) = (SHORTEST_CYCLE ≤ n) × (n ≤ LONGEST_SPAN)
IsInBounds _ = Unit {0}

-- the command that the words ask for: exactly its name, and its number where it has one
abbrev pub asked : List (String Global) → Option Command
asked words = command_in (map string_bytes words)
