-- The signals of a bypass.
use Rattle.std.specs.Prelude.{Bool, false, ◌||◌}
use Rattle.lift_base.specs.declared.Kind.{Kind}
use Rattle.lift_base.specs.declared.Kind.TheVariants.{Off, Full, Up, Down}

-- signals run during motion, where a side asks for them (5.12.1.8)
abbrev pub sounds : Bool → Bool → Kind → Bool
sounds a b Off = false
sounds a b Full = a || b
sounds a b Up = a || b
sounds a b Down = a || b
