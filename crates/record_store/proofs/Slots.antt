-- The bytes of slots: what is read of one, and what is written to one.
use Rattle.std.proofs.Common.{ℕ, zero, suc, ◌≡◌, ◌+◌, ◌*◌, ◌≤◌, ◌<◌, inl, inr, Bool, true, false, ◌==◌, List, [], ◌∷◌, ◌++◌, length, get_or, refl, sym, ◌∙◌, ap, subst, arith}
use Rattle.std.proofs.lemmas.Bool.{cases_eq}
use Rattle.std.proofs.lemmas.List.{get_or_push, get_or_append_left}
use Rattle.std.proofs.lemmas.Nat.{from_le_bytes-to_le_bytes_4}
use Rattle.lift_base.specs.declared.Kind.{Kind}
use Rattle.lift_base.specs.declared.Kind.TheVariants.{Off, Full, Up, Down}
use Rattle.script_model.specs.Changes.{ChangeData}
use Rattle.core_model.specs.Words.{kind_code, kind_of_code, bit_of}
use Rattle.record_disk.specs.Disk.{Content, IsAt}
use Rattle.record_store.specs.Slot.{slot, change_in, head_of, IsUp, IsGood}
use Rattle.record_store.specs.Store.{IsTimely}
use Rattle.record_store.specs.declared.slot.TheConstants.{GATE, SLOTS}

-- ---- sixteen bytes, one by one

abbrev build : (ℕ → ℕ) → ℕ → List ℕ
build f zero = []
build f (suc n) = f 0 ∷ build (λ k. f (suc k)) n

built : (f : ℕ → ℕ) (n : ℕ) (xs : List ℕ) → length xs ≡ n → ((k : ℕ) → k < n → f k ≡ get_or xs k 0) → xs ≡ build f n
built f zero [] long at = refl
built f zero (x ∷ xs) long at = absurd (omega arith)
built f (suc n) [] long at = absurd (omega arith)
built f (suc n) (x ∷ xs) long at =
    let here = at 0 (omega arith) in
    let rest = built (λ k. f (suc k)) n xs (omega arith) (λ k lt. at (suc k) (omega arith)) in
    λ j. (sym here) j ∷ rest j

built_same : (f g : ℕ → ℕ) (n : ℕ) → ((k : ℕ) → k < n → f k ≡ g k) → build f n ≡ build g n
built_same f g zero at = refl
built_same f g (suc n) at =
    let here = at 0 (omega arith) in
    let rest = built_same (λ k. f (suc k)) (λ k. g (suc k)) n (λ k lt. at (suc k) (omega arith)) in
    λ j. here j ∷ rest j

-- bytes that stand where slot i does are that slot
pub slot_read : (c : Content) (i : ℕ) (xs : List ℕ) → length xs ≡ 16 → ((k : ℕ) → k < 16 → c (16 * i + k) ≡ get_or xs k 0) → xs ≡ slot c i
slot_read c i xs long at =
    let first : c (16 * i + 0) ≡ c (16 * i) = ap c (omega arith) in
    built (λ k. c (16 * i + k)) 16 xs long at ∙ ap (λ (b : ℕ). b ∷ build (λ k. c (16 * i + suc k)) 15) first

pub slot_same : (c d : Content) (i : ℕ) → ((k : ℕ) → k < 16 → d (16 * i + k) ≡ c (16 * i + k)) → slot d i ≡ slot c i
slot_same c d i same =
    let first : d (16 * i) ≡ c (16 * i) = ap d (omega arith) ∙ same 0 (omega arith) ∙ ap c (omega arith) in
    let rest = built_same (λ k. d (16 * i + suc k)) (λ k. c (16 * i + suc k)) 15 (λ k lt. same (suc k) (omega arith)) in
    λ j. first j ∷ rest j

-- ---- the slot of a change

-- a good slot, and what it holds
pub record Holds (s : List ℕ) (i : ℕ) (x : ChangeData) : Type 0 where
  pub good : IsGood s i
  pub change : change_in s ≡ x

kind_small : (k : Kind) → kind_code k ≤ 3
kind_small Off = omega arith
kind_small Full = omega arith
kind_small Up = omega arith
kind_small Down = omega arith

kind_back : (k : Kind) → kind_of_code (kind_code k) ≡ k
kind_back Off = refl
kind_back Full = refl
kind_back Up = refl
kind_back Down = refl

bit_small : (b : Bool) → bit_of b ≤ 1
bit_small true = omega arith
bit_small false = omega arith

bit_back : (b : Bool) → (bit_of b == 1) ≡ b
bit_back true = refl
bit_back false = refl

whole : (x : ChangeData) (i : ℕ) → i < SLOTS → IsTimely x → Holds (head_of x i ++ GATE ∷ []) i x
whole x i place (from, to) =
    let number = from_le_bytes-to_le_bytes_4 i (omega arith) in
    let tick = from_le_bytes-to_le_bytes_4 x.tick (omega arith) in
    let kind = kind_back x.power in
    let bit = bit_back x.alarm in
    record {
      good = record {
        gate = refl;
        number = number;
        kind = kind_small x.power;
        alarm = bit_small x.alarm;
        zeros = (refl, refl, refl);
        tick_from = omega arith;
        tick_to = omega arith;
      };
      change = λ j. record { tick = tick j; power = kind j; alarm = bit j; reason = x.reason; detail = x.detail };
    }

-- the head and the gate, as they stand in a slot
written : (d : Content) (x : ChangeData) (i : ℕ) → IsAt d (16 * i) (head_of x i) → IsUp d i → head_of x i ++ GATE ∷ [] ≡ slot d i
written d x i at up = slot_read d i (head_of x i ++ GATE ∷ []) refl bytes
  where
    bytes : (k : ℕ) → k < 16 → d (16 * i + k) ≡ get_or (head_of x i ++ GATE ∷ []) k 0
    bytes k lt = elim (cases_eq k 15) [
      | inl last ↦ ap (λ (n : ℕ). d (16 * i + n)) last ∙ up ∙ sym (get_or_push (head_of x i) GATE 0 k (sym last))
      | inr before ↦ at k (omega arith) ∙ sym (get_or_append_left (head_of x i) (GATE ∷ []) 0 k (omega arith))
    ]

pub holds : (d : Content) (x : ChangeData) (i : ℕ) → i < SLOTS → IsTimely x → IsAt d (16 * i) (head_of x i) → IsUp d i
    → Holds (slot d i) i x
holds d x i place timely at up = subst (λ (s : List ℕ). Holds s i x) (written d x i at up) (whole x i place timely)
