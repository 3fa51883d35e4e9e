-- The data that a frame can have, how its bytes lie before zeros, and the identifier that a line begins with.
use Rattle.std.specs.Prelude.{◌≡◌, ◌≤◌, ◌<◌, ◌^◌, ℕ, List, ◌∷◌, length, take, ◌++◌, ◌-◌, replicate, Option, None}
use Rattle.std.specs.List.{AllByRecursion}
use Rattle.std.proofs.Common.{arith}
use Rattle.std.proofs.lemmas.List.{length-take-le}
use Rattle.lift_model.specs.Records.{FrameData}
use Rattle.can_frame.specs.Spelling.{id_of}

-- the bytes, and zeros up to eight
abbrev pub padded : List ℕ → List ℕ
padded bytes = bytes ++ replicate (8 - length bytes) 0

-- an identifier of eleven bits, up to eight bytes that count, and zeros past them
pub record IsFrame (id len : ℕ) (bytes : List ℕ) : Type 0 where
  pub id_fits : id ≤ 0x7FF
  pub len_fits : len ≤ 8
  pub full : length bytes ≡ 8
  pub rest : bytes ≡ padded (take len bytes)

-- what some frame is seen as
pub record IsFrameData (f : FrameData) : Type 0 where
  pub id : f.id ≤ 0x7FF
  pub few : length f.bytes ≤ 8
  pub bytes : AllByRecursion (λ b. b < 2 ^ 8) f.bytes

-- the identifier that the first three bytes of a line write
abbrev pub id_at : List ℕ → Option ℕ
id_at (a ∷ b ∷ c ∷ rest) = id_of a b c
id_at _ = None

pub len_back : (len : ℕ) (bytes : List ℕ) → len ≤ 8 → length bytes ≡ 8 → length (take len bytes) ≡ len
len_back len bytes fits full = length-take-le len bytes (omega (arith, fits, full))
