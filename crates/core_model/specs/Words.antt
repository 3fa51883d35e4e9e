-- The words of the two channels: which field stands at which bits. All own.
use Rattle.std.specs.Prelude.{◌≡◌, ℕ, ◌+◌, ◌-◌, ◌*◌, ◌/◌, ◌%◌, ◌^◌, Bool, true, false, ◌||◌, ◌==◌, if◌then◌else◌}
use Rattle.lift_base.specs.Ruling.{Ruling}
use Rattle.lift_model.specs.Enums.{Kind, Off, Full, Up, Down, Mode, Normal, Inspection, Emergency}

-- the two bits of a kind
abbrev pub kind_code : Kind → ℕ
kind_code Off = 0
kind_code Full = 1
kind_code Up = 2
kind_code Down = 3

-- the two bits of a mode
abbrev pub mode_code : Mode → ℕ
mode_code Normal = 0
mode_code Inspection = 1
mode_code Emergency = 2

-- the bit of a truth value
abbrev pub bit_of : Bool → ℕ
bit_of true = 1
bit_of false = 0

-- stamp in bits 0 to 23, kind from 24, clause from 26, detail from 32, mode from 40, bypass at 42
abbrev pub publish_word : ℕ → Ruling → ℕ
publish_word n v = n + kind_code v.kind * 2 ^ 24 + v.clause * 2 ^ 26 + v.detail * 2 ^ 32
    + mode_code v.mode * 2 ^ 40 + bit_of v.bypass * 2 ^ 42

-- what a command word says: for which tick, which kind, why Off, and whether the alarm is to sound
pub record CommandData : Type 0 where
  pub stamp : ℕ
  pub kind : Kind
  pub reason : ℕ
  pub detail : ℕ
  pub alarm : Bool

-- stamp in bits 0 to 23, kind from 24, reason from 26, detail from 32, alarm at 40
abbrev pub command_word : CommandData → ℕ
command_word c = c.stamp + kind_code c.kind * 2 ^ 24 + c.reason * 2 ^ 26 + c.detail * 2 ^ 32 + bit_of c.alarm * 2 ^ 40

-- the kind of two bits
abbrev pub kind_of_code : ℕ → Kind
kind_of_code code = if code == 0 then Off else if code == 1 then Full else if code == 2 then Up else Down

-- bits 0 to 23 of any word
abbrev pub stamp_of : ℕ → ℕ
stamp_of word = word % 2 ^ 24

-- bits 24 and 25 of any word
abbrev pub kind_of : ℕ → Kind
kind_of word = kind_of_code (word / 2 ^ 24 % 4)

-- bits 26 to 31 of any word
abbrev pub reason_of : ℕ → ℕ
reason_of word = word / 2 ^ 26 % 64

-- bits 32 to 39 of any word
abbrev pub detail_of : ℕ → ℕ
detail_of word = word / 2 ^ 32 % 256

-- bit 40 of any word
abbrev pub alarm_of : ℕ → Bool
alarm_of word = word / 2 ^ 40 % 2 == 1

-- the kind is Off
abbrev pub is_off : Kind → Bool
is_off k = kind_code k == 0

-- the kinds are the same
abbrev pub is_same : Kind → Kind → Bool
is_same k l = kind_code k == kind_code l

-- the seen word is the whole publish word of the own verdict at its stamp, or of the verdict before it at the stamp before
abbrev pub matches : ℕ → Ruling → Ruling → ℕ → Bool
matches stamp own before seen = seen == publish_word stamp own || seen == publish_word (stamp - 1) before

-- each field of a publish word is read back, and no bit stands above them
pub record PublishReads (n : ℕ) (v : Ruling) (word : ℕ) : Type 0 where
  pub stamp : stamp_of word ≡ n
  pub kind : kind_of word ≡ v.kind
  pub clause : reason_of word ≡ v.clause
  pub detail : detail_of word ≡ v.detail
  pub mode : word / 2 ^ 40 % 4 ≡ mode_code v.mode
  pub bypass : word / 2 ^ 42 ≡ bit_of v.bypass

-- each field of a command word is read back, and no bit stands above them
pub record CommandReads (c : CommandData) (word : ℕ) : Type 0 where
  pub stamp : stamp_of word ≡ c.stamp
  pub kind : kind_of word ≡ c.kind
  pub reason : reason_of word ≡ c.reason
  pub detail : detail_of word ≡ c.detail
  pub alarm : alarm_of word ≡ c.alarm
  pub rest : word / 2 ^ 40 ≡ bit_of c.alarm
