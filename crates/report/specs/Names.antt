-- A name that may not be there, and a word.
use Rattle.std.specs.Prelude.{ℕ, List, codes}
use Rattle.std.specs.Borrow.{Bor}
use Rattle.std.specs.declared.option.Option.{Option}
use Rattle.std.specs.declared.option.Option.TheVariants.{None, Some}

abbrev pub text_in : Option (Bor (List ℕ)) → Option (List ℕ)
text_in None = None
text_in (Some name) = Some name.now

-- the digits of a word, or a dash
abbrev pub digits_or_dash : Option (List ℕ) → List ℕ
digits_or_dash None = codes "-"
digits_or_dash (Some digits) = digits
