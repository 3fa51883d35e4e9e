-- Fields of written words are read back.
use Rattle.std.proofs.Common.{◌≡◌, ℕ, ◌+◌, ◌*◌, ◌/◌, ◌%◌, ◌^◌, ◌<◌, Bool, true, false, refl, ap, ◌∙◌, arith, eqb}
use Rattle.lift_base.specs.declared.Kind.{Kind}
use Rattle.lift_base.specs.declared.Kind.TheVariants.{Off, Full, Up, Down}
use Rattle.lift_base.specs.Ruling.{Ruling}
use Rattle.lift_base.specs.declared.Mode.{Mode}
use Rattle.lift_base.specs.declared.Mode.TheVariants.{Normal, Inspection, Emergency}
use Rattle.core_model.specs.Words.{PublishReads, CommandReads, kind_code, mode_code, bit_of, kind_of_code, CommandData, publish_word, command_word, stamp_of, kind_of, alarm_of, reason_of, detail_of}

kind_small : (k : Kind) → kind_code k < 4
kind_small Off = omega arith
kind_small Full = omega arith
kind_small Up = omega arith
kind_small Down = omega arith

bit_small : (b : Bool) → bit_of b < 2
bit_small true = omega arith
bit_small false = omega arith

pub kind_back : (k : Kind) → kind_of_code (kind_code k) ≡ k
kind_back Off = refl
kind_back Full = refl
kind_back Up = refl
kind_back Down = refl

bit_back : (b : Bool) → eqb (bit_of b) 1 ≡ b
bit_back true = refl
bit_back false = refl

pub stamp_of-command : (c : CommandData) → c.stamp < 2 ^ 24 → stamp_of (command_word c) ≡ c.stamp
stamp_of-command c h = omega arith

kind_field : (s k r d a : ℕ) → s < 2 ^ 24 → k < 4 → (s + k * 2 ^ 24 + r * 2 ^ 26 + d * 2 ^ 32 + a * 2 ^ 40) / 2 ^ 24 % 4 ≡ k
kind_field s k r d a h i = omega arith

alarm_field : (s k r d a : ℕ) → s < 2 ^ 24 → k < 4 → r < 64 → d < 256 → a < 2
    → (s + k * 2 ^ 24 + r * 2 ^ 26 + d * 2 ^ 32 + a * 2 ^ 40) / 2 ^ 40 % 2 ≡ a
alarm_field s k r d a h i j l m = omega arith

reason_field : (s k r d a : ℕ) → s < 2 ^ 24 → k < 4 → r < 64 → (s + k * 2 ^ 24 + r * 2 ^ 26 + d * 2 ^ 32 + a * 2 ^ 40) / 2 ^ 26 % 64 ≡ r
reason_field s k r d a h i j = omega arith

pub kind_of-command : (c : CommandData) → c.stamp < 2 ^ 24 → kind_of (command_word c) ≡ c.kind
kind_of-command c h = ap kind_of_code (kind_field c.stamp (kind_code c.kind) c.reason c.detail (bit_of c.alarm) h (kind_small c.kind))
    ∙ kind_back c.kind

pub alarm_of-command : (c : CommandData) → c.stamp < 2 ^ 24 → c.reason < 64 → c.detail < 256 → alarm_of (command_word c) ≡ c.alarm
alarm_of-command c h i j = ap (λ (n : ℕ). eqb n 1) (alarm_field c.stamp (kind_code c.kind) c.reason c.detail (bit_of c.alarm) h
    (kind_small c.kind) i j (bit_small c.alarm)) ∙ bit_back c.alarm

pub reason_of-command : (c : CommandData) → c.stamp < 2 ^ 24 → c.reason < 64 → reason_of (command_word c) ≡ c.reason
reason_of-command c h i = reason_field c.stamp (kind_code c.kind) c.reason c.detail (bit_of c.alarm) h (kind_small c.kind) i

detail_field : (s k r d a : ℕ) → s < 2 ^ 24 → k < 4 → r < 64 → d < 256
    → (s + k * 2 ^ 24 + r * 2 ^ 26 + d * 2 ^ 32 + a * 2 ^ 40) / 2 ^ 32 % 256 ≡ d
detail_field s k r d a h i j l = omega arith

top_field : (s k r d a : ℕ) → s < 2 ^ 24 → k < 4 → r < 64 → d < 256 → (s + k * 2 ^ 24 + r * 2 ^ 26 + d * 2 ^ 32 + a * 2 ^ 40) / 2 ^ 40 ≡ a
top_field s k r d a h i j l = omega arith

-- ---- whole words

pub command_reads : (c : CommandData) → c.stamp < 2 ^ 24 → c.reason < 64 → c.detail < 256 → CommandReads c (command_word c)
command_reads c h i j = record {
  stamp = stamp_of-command c h;
  kind = kind_of-command c h;
  reason = reason_of-command c h i;
  detail = detail_field c.stamp (kind_code c.kind) c.reason c.detail (bit_of c.alarm) h (kind_small c.kind) i j;
  alarm = alarm_of-command c h i j;
  rest = top_field c.stamp (kind_code c.kind) c.reason c.detail (bit_of c.alarm) h (kind_small c.kind) i j;
}

mode_small : (m : Mode) → mode_code m < 4
mode_small Normal = omega arith
mode_small Inspection = omega arith
mode_small Emergency = omega arith

-- what stands above the detail of a publish word
upper : (s k c d m b : ℕ)
    → s + k * 2 ^ 24 + c * 2 ^ 26 + d * 2 ^ 32 + m * 2 ^ 40 + b * 2 ^ 42 ≡ s + k * 2 ^ 24 + c * 2 ^ 26 + d * 2 ^ 32 + (m + b * 4) * 2 ^ 40
upper s k c d m b = omega arith

pub publish_reads : (n : ℕ) (v : Ruling) → n < 2 ^ 24 → v.clause < 64 → v.detail < 256 → PublishReads n v (publish_word n v)
publish_reads n v h i j =
    let k = kind_code v.kind in
    let m = mode_code v.mode in
    let b = bit_of v.bypass in
    let e : publish_word n v ≡ n + k * 2 ^ 24 + v.clause * 2 ^ 26 + v.detail * 2 ^ 32 +
    (m + b * 4) * 2 ^ 40 = upper n k v.clause v.detail m b in
    let top = ap (λ (w : ℕ). w / 2 ^ 40) e ∙ top_field n k v.clause v.detail (m + b * 4) h (kind_small v.kind) i j in
    record {
      stamp = omega arith;
      kind = ap kind_of e ∙ (ap kind_of_code (kind_field n k v.clause v.detail (m + b * 4) h (kind_small v.kind)) ∙ kind_back v.kind);
      clause = ap reason_of e ∙ reason_field n k v.clause v.detail (m + b * 4) h (kind_small v.kind) i;
      detail = ap detail_of e ∙ detail_field n k v.clause v.detail (m + b * 4) h (kind_small v.kind) i j;
      mode = ap (λ (w : ℕ). w % 4) top ∙ low m b (mode_small v.mode);
      bypass = high (publish_word n v) m b (mode_small v.mode) top;
    }
  where
    low : (m b : ℕ) → m < 4 → (m + b * 4) % 4 ≡ m
    low m b h = omega arith

    high : (w m b : ℕ) → m < 4 → w / 2 ^ 40 ≡ m + b * 4 → w / 2 ^ 42 ≡ b
    high w m b h e = omega arith
