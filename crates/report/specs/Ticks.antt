-- The change of one tick of a path.
use Rattle.std.specs.Prelude.{ℕ, ◌-◌, List, ◌∷◌, get_or, if◌then◌else◌}
use Rattle.std.specs.declared.option.Option.{Option}
use Rattle.std.specs.declared.option.Option.TheVariants.{None, Some}
use Rattle.core_model.specs.Settling.{Settled, no_settled}
use Rattle.script_model.specs.Changes.{ChangeData}
use Rattle.script_model.specs.Report.{change_at, is_change}

-- what the tick before tick t settled; before the first it is Off and silent
abbrev pub settled_before : List Settled → ℕ → Settled
settled_before path t = get_or (no_settled ∷ path) (t - 1) no_settled

abbrev pub settled_at : List Settled → ℕ → Settled
settled_at path t = get_or path (t - 1) no_settled

-- what tick t changed, where it did
abbrev pub change_of : List Settled → ℕ → Option ChangeData
change_of path t =
    let old = settled_before path t in let new = settled_at path t in
    if is_change old.power old.alarm new.power new.alarm then Some (change_at t new) else None
