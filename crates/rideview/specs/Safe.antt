-- The pass that keeps the data from being markup.
use Rattle.std.specs.Prelude.{ℕ, ◌≢◌, ◌==◌, if◌then◌else◌, List, [], ◌∷◌}
use Rattle.std.specs.List.{flat_map}

-- the sign `<` is written as JSON's escape of it
abbrev pub safe_byte : ℕ → List ℕ
safe_byte x = if x == 60 then 92 ∷ 117 ∷ 48 ∷ 48 ∷ 51 ∷ 99 ∷ [] else x ∷ []

abbrev pub safe : List ℕ → List ℕ
safe = flat_map safe_byte

-- a text without the sign `<`
abbrev pub HasNoMarkup : List ℕ → Type 0
HasNoMarkup [] = Unit {0}
HasNoMarkup (x ∷ xs) = (x ≢ 60) × HasNoMarkup xs
