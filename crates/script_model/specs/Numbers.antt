-- How numbers of a script are spelled.
use Rattle.std.specs.Prelude.{ℕ, ◌+◌, ◌-◌, ◌*◌, ◌==◌, ◌&&◌, nat_le, List, [], ◌∷◌, length, not, if◌then◌else◌, codes, slice_index, option_and_then}
use Rattle.std.specs.List.{list_all}
use Rattle.std.specs.Char.{is_ascii_digit}
use Rattle.std.specs.Str.{bytes_eq}
use Rattle.std.specs.declared.option.Option.{Option}
use Rattle.std.specs.declared.option.Option.TheVariants.{None, Some}
use Rattle.lift_base.specs.declared.limits.TheConstants.{MOST_TICKS}

-- the number that decimal digits write, behind a number
abbrev pub value_from : ℕ → List ℕ → ℕ
value_from n [] = n
value_from n (d ∷ ds) = value_from (10 * n + (d - 48)) ds

-- a number of ticks, from 1 on, without a leading zero
abbrev pub number_of : List ℕ → Option ℕ
number_of ds = if list_all is_ascii_digit ds
    && (not (slice_index ds 0 == 48) && (nat_le 1 (length ds) && (nat_le (length ds) 6 && nat_le (value_from 0 ds) MOST_TICKS)))
    then Some (value_from 0 ds) else None

-- a place of the crew, from 0 to 254, without a leading zero
abbrev pub place_of : List ℕ → Option ℕ
place_of ds = if bytes_eq ds (codes "0") then Some 0 else option_and_then (λ i. if nat_le i 254 then Some i else None) (number_of ds)
