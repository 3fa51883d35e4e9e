-- The slots of a record: 10,000 of 16 bytes.
use Rattle.std.specs.Prelude.{ℕ, ◌≡◌, ◌≤◌, ◌+◌, ◌*◌, List, [], ◌∷◌, ◌++◌, slice_index, ◌==◌}
use Rattle.std.specs.Int.{w32, from_le_bytes, to_le_bytes}
use Rattle.script_model.specs.Changes.{ChangeData}
use Rattle.core_model.specs.Words.{kind_code, kind_of_code, bit_of}
use Rattle.record_disk.specs.Disk.{Content}
use Rattle.record_store.specs.declared.slot.TheConstants.{GATE, LAST_TICK}

-- the 16 bytes of slot i
abbrev pub slot : Content → ℕ → List ℕ
slot c i = c (16 * i) ∷ c (16 * i + 1) ∷ c (16 * i + 2) ∷ c (16 * i + 3) ∷ c (16 * i + 4) ∷ c (16 * i + 5) ∷ c (16 * i + 6)
    ∷ c (16 * i + 7) ∷ c (16 * i + 8) ∷ c (16 * i + 9) ∷ c (16 * i + 10) ∷ c (16 * i + 11) ∷ c (16 * i + 12) ∷ c (16 * i + 13)
    ∷ c (16 * i + 14) ∷ c (16 * i + 15) ∷ []

-- ---- its fields

-- four bytes of a slot, the lowest first
abbrev pub four_at : List ℕ → ℕ → List ℕ
four_at s k = slice_index s k ∷ slice_index s (k + 1) ∷ slice_index s (k + 2) ∷ slice_index s (k + 3) ∷ []

abbrev pub tick_in : List ℕ → ℕ
tick_in s = from_le_bytes w32 (four_at s 0)

abbrev pub number_in : List ℕ → ℕ
number_in s = from_le_bytes w32 (four_at s 8)

abbrev pub gate_in : List ℕ → ℕ
gate_in s = slice_index s 15

-- the change that it holds
abbrev pub change_in : List ℕ → ChangeData
change_in s = record {
  tick = tick_in s;
  power = kind_of_code (slice_index s 4);
  alarm = slice_index s 5 == 1;
  reason = slice_index s 6;
  detail = slice_index s 7;
}

-- these are the bytes of a good slot of this number
pub record IsGood (s : List ℕ) (i : ℕ) : Type 0 where
  pub gate : gate_in s ≡ GATE
  pub number : number_in s ≡ i
  pub kind : slice_index s 4 ≤ 3
  pub alarm : slice_index s 5 ≤ 1
  pub zeros : (slice_index s 12 ≡ 0) × (slice_index s 13 ≡ 0) × (slice_index s 14 ≡ 0)
  pub tick_from : 1 ≤ tick_in s
  pub tick_to : tick_in s ≤ LAST_TICK

-- the gate of slot i is up
abbrev pub IsUp : Content → ℕ → Type 0
IsUp c i = c (16 * i + 15) ≡ GATE

-- bytes 0 to 14 of the slot of a change
abbrev pub head_of : ChangeData → ℕ → List ℕ
head_of change i = to_le_bytes w32 change.tick
    ++ (kind_code change.power ∷ bit_of change.alarm ∷ change.reason ∷ change.detail ∷ [])
    ++ to_le_bytes w32 i ++ (0 ∷ 0 ∷ 0 ∷ [])
