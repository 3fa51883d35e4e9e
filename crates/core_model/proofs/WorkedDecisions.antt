-- Decisions, row by row, computed by hand. At stamp 5 Full is granted at 5 and at 4, so the two words that match are 1000005 and 1000004.
use Rattle.std.proofs.Common.{◌≡◌, ℕ, Bool, true, false, refl}
use Rattle.lift_base.specs.Ruling.{Ruling, initial}
use Rattle.lift_base.specs.declared.Kind.{Kind}
use Rattle.lift_base.specs.declared.Kind.TheVariants.{Off, Full, Up, Down}
use Rattle.lift_base.specs.declared.Mode.TheVariants.{Normal, Inspection}
use Rattle.core_model.specs.Decision.{Kept, Told, Decision, decided}
use Rattle.core_model.specs.Words.{publish_word, command_word, kind_of, reason_of}

abbrev full : Ruling
full = record { kind = Full; clause = 0; detail = 0; mode = Normal; bypass = false }

-- the governor is open
abbrev refused : Ruling
refused = record { kind = Off; clause = 7; detail = 1; mode = Normal; bypass = false }

-- up past a bypassed door
abbrev up : Ruling
up = record { kind = Up; clause = 0; detail = 0; mode = Inspection; bypass = true }

abbrev keeps : Kind → ℕ → Bool → ℕ → ℕ → Kept
keeps last misses locked on_open off_closed =
    record { last = last; misses = misses; locked = locked; on_open = on_open; off_closed = off_closed }

-- own verdict at stamp 5, Full before it; the word seen, both contactors, the reset
abbrev tells : Ruling → ℕ → Bool → Bool → Bool → Told
tells own seen closed_a closed_b reset =
    record { stamp = 5; own = own; before = full; seen = seen; closed_a = closed_a; closed_b = closed_b; reset = reset }

abbrev says : Kind → ℕ → ℕ → Bool → Kept → Decision
says kind reason detail alarm kept =
    record { command = record { stamp = 5; kind = kind; reason = reason; detail = detail; alarm = alarm }; kept = kept }

-- ---- words: kind from bit 24, clause from 26, detail from 32, mode from 40, bypass at 42

nothing_published : publish_word 0 initial ≡ 0x0000000000000000
nothing_published = refl

full_published : publish_word 1 full ≡ 0x0000000001000001
full_published = refl

-- 11 * 2 ^ 26 = 2C000000
no_request_published : publish_word 3 (record { kind = Off; clause = 11; detail = 0; mode = Normal; bypass = false }) ≡ 0x000000002C000003
no_request_published = refl

-- Up is 2, Inspection is 1 at bit 40, the bypass 4 there
up_published : publish_word 6 up ≡ 0x0000050002000006
up_published = refl

-- 7 * 2 ^ 26 = 1C000000, and the detail is the low byte of the upper half
refused_published : publish_word 5 refused ≡ 0x000000011C000005
refused_published = refl

alarm_commanded : command_word (record { stamp = 6; kind = Up; reason = 0; detail = 0; alarm = true }) ≡ 0x0000010002000006
alarm_commanded = refl

fields_of_any_word : reason_of 0xFFFFFFFFFFFFFFFF ≡ 63
fields_of_any_word = refl

kind_of_any_word : kind_of 0x0000000003000000 ≡ Down
kind_of_any_word = refl

-- ---- first row: locked, the reset, both open

unlocks_with_a_match : decided (keeps Off 3 true 1 2) (tells full 0x01000005 false false true)
    ≡ says Off 14 0 false (keeps Off 0 false 0 0)
unlocks_with_a_match = refl

unlocks_without_a_match : decided (keeps Off 3 true 1 2) (tells full 0 false false true) ≡ says Off 14 0 false (keeps Off 1 false 0 0)
unlocks_without_a_match = refl

-- ---- second row: locked otherwise; the counts go on

stays_locked_while_closed : decided (keeps Off 3 true 0 1) (tells full 0x01000005 true false true)
    ≡ says Off 14 0 false (keeps Off 0 true 0 2)
stays_locked_while_closed = refl

stays_locked_without_reset : decided (keeps Off 2 true 0 1) (tells full 0 false false false) ≡ says Off 14 0 false (keeps Off 3 true 0 0)
stays_locked_without_reset = refl

-- ---- third row: the third miss, or the third round closed while Off

third_miss_locks : decided (keeps Full 2 false 0 0) (tells full 0x01000003 true true false) ≡ says Off 14 0 false (keeps Off 3 true 0 0)
third_miss_locks = refl

second_miss_does_not : decided (keeps Full 1 false 0 0) (tells full 0x01000003 true true false)
    ≡ says Off 13 0 false (keeps Off 2 false 0 0)
second_miss_does_not = refl

welded_contactor_locks : decided (keeps Off 0 false 0 2) (tells full 0x01000005 false true false)
    ≡ says Off 14 0 false (keeps Off 0 true 0 3)
welded_contactor_locks = refl

-- ---- fourth row: nothing is granted; the reason is the clause

own_clause : decided (keeps Full 1 false 0 0) (tells refused 0x000000011C000005 true true false)
    ≡ says Off 7 1 false (keeps Off 0 false 0 0)
own_clause = refl

-- ---- fifth row: no match; a right kind and stamp with another detail is none

one_bit_is_no_match : decided (keeps Full 0 false 0 0) (tells full 0x0000000101000005 true true false)
    ≡ says Off 13 0 false (keeps Off 1 false 0 0)
one_bit_is_no_match = refl

-- the kind of stamp 4 with the stamp 5
other_kind_is_no_match : decided (keeps Up 0 false 0 0) (tells up 0x0000000001000005 true true false)
    ≡ says Off 13 0 false (keeps Off 1 false 0 0)
other_kind_is_no_match = refl

-- ---- sixth row: the third round open while on

open_contactor : decided (keeps Full 0 false 2 0) (tells full 0x01000005 true false false) ≡ says Off 17 0 false (keeps Off 0 false 0 0)
open_contactor = refl

-- ---- seventh row: Off before, and a contactor is closed

closed_contactor : decided (keeps Off 0 false 0 1) (tells full 0x01000005 true false false) ≡ says Off 15 0 false (keeps Off 0 false 0 2)
closed_contactor = refl

-- ---- eighth row: another kind than before

changeover : decided (keeps Full 0 false 0 0) (tells up 0x0000050002000005 true true false) ≡ says Off 16 0 false (keeps Off 0 false 0 0)
changeover = refl

-- ---- ninth row

starts : decided (keeps Off 0 false 0 0) (tells full 0x01000005 false false false) ≡ says Full 0 0 false (keeps Full 0 false 0 0)
starts = refl

-- the word of the stamp before matches too
goes_on_with_the_word_before : decided (keeps Full 2 false 1 0) (tells full 0x01000004 true false false)
    ≡ says Full 0 0 false (keeps Full 0 false 2 0)
goes_on_with_the_word_before = refl

sounds_the_alarm : decided (keeps Up 0 false 0 0) (tells up 0x0000050002000005 true true false) ≡ says Up 0 0 true (keeps Up 0 false 0 0)
sounds_the_alarm = refl
